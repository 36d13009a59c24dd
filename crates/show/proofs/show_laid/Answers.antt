-- `show::show_laid` meets its contract: the first text found the length, the second is laid only where it has room. Assumes nothing.
use mathlib.Core.Path.{◌≡◌, refl, ap, ◌∙◌}
use Prim.Native.Nat.{ℕ}
use native.Mathlib.Omega.{arith}
use Rattle.std.specs.Prelude.{Ok}
use Rattle.bytes_out.proofs.Laws.{put_length, put_whole}
use Rattle.aspif_parts.specs.Held.{held_by}
use Rattle.notation.specs.Notation.{text_by, text_of}
use Rattle.show.proofs.Texts.{named_most, text_is}
use Rattle.show.proofs.show_laid.Goals as goal

pub put_text-length-requires : goal.put_text-length-requires
put_text-length-requires c =
    let pre = c.args.t.now.laid in
    let args = c.args in
    let at_named = c.named-d in
    rw at_named.ensures (named_most args.t.now.words.now args.t.now.places)

pub returns-then-text-length : goal.returns-then-text-length
returns-then-text-length c =
    let same : text_by c.named-d.result (held_by c.args.t.now.words.now c.args.t.now.places) ≡ text_of (held_by c.args.t.now.words.now c.args.t.now.places) =
    let args = c.args in
    let at_named = c.named-d in
    ap (λ (d : ℕ). text_by d (held_by args.t.now.words.now args.t.now.places)) at_named.ensures ∙ text_is args.t.now.words.now args.t.now.places in
    let at-put-text = c.put_text-length in
    let at-if1 = c.if-text-length in
    let q = rw (same) at at-put-text.ensures in
    let m = q.ends in record { fits = λ h. absurd (omega (arith, at-if1.true)); short = λ h. (refl, refl) }

pub put_text-requires : goal.put_text-requires
put_text-requires c =
    let pre = c.args.t.now.laid in
    let args = c.args in
    let at_named = c.named-d in
    rw at_named.ensures (named_most args.t.now.words.now args.t.now.places)

pub returns : goal.returns
returns c =
    let same : text_by c.named-d.result (held_by c.args.t.now.words.now c.args.t.now.places) ≡ text_of (held_by c.args.t.now.words.now c.args.t.now.places) =
    let args = c.args in
    let at_named = c.named-d in
    ap (λ (d : ℕ). text_by d (held_by args.t.now.words.now args.t.now.places)) at_named.ensures ∙ text_is args.t.now.words.now args.t.now.places in
    let at-put-text = c.put_text-length in
    let at-if1 = c.if-text-length in
    let at-put-text2 = c.put_text in
    let m = (rw (same) at at-put-text.ensures).ends in
    let q = rw (same) at at-put-text2.ensures in let k = at-if1.false in record { fits = λ h. (ap Ok (put_length q h), put_whole q h); short = λ h. absurd (omega arith) }
