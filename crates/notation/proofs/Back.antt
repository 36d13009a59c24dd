-- What is written of an accepted table is read back as its words; and what is read is an accepted table. Assumes nothing.
use mathlib.Core.Path.{◌≡◌, refl, sym, ap, ◌∙◌, subst}
use mathlib.Core.Bool.{Bool, true, false}
use mathlib.Core.List.{List}
use Prim.Native.Nat.{ℕ}
use lib.Dec.{T}
use lib.IntN.{ℤ}
use lib.ListN.{length}
use Rattle.table.specs.Contents.{Contents, encode}
use Rattle.table.specs.Grammar.{Outcome, accepted, refused_for, contents_of}
use Rattle.table.proofs.Accepted.{accepted_encoding}
use Rattle.notation.specs.Notation.{named, text_by, text_of}
use Rattle.notation.specs.Tokens.{Token, tokens, Place, place_of}
use Rattle.notation.specs.Parser.{Result, made, failed, run}
use Rattle.notation.specs.Grammar.{Sofar, table}
use Rattle.notation.specs.Reading.{Reading, words, refused, contents, accepting, read_by, read_text}
use Rattle.notation.proofs.InTurn.{named_does}
use Rattle.notation.proofs.ReadTable.{table_run}
use Rattle.notation.proofs.LexedTable.{text_tokens}

-- ---- read back

module _ (t : List ℤ) (c : Contents) (e : contents_of t ≡ accepted c) where
  pub read_back : read_text (text_of c) ≡ words t
  unfolding read_text text_of contents
  read_back =
      let i = accepted_encoding t c e in
      ap (λ (ts : List Token). read_by (text_by (named c) c) (run table ts)) (text_tokens (named c) c)
      ∙ ap (read_by (text_by (named c) c)) (table_run c (named c) i.range (named_does c i.range))
      ∙ ap (accepting (encode c) (place_of (text_by (named c) c) (length (text_by (named c) c)))) (ap contents_of (sym i.words) ∙ e)
      ∙ ap words (sym i.words)

-- ---- what is read is accepted

abbrev are_words : Reading → Bool
are_words (words ws) = true
are_words (refused w p) = false

abbrev words_in : List ℤ → Reading → List ℤ
words_in d (words ws) = ws
words_in d (refused w p) = d

refused≢words {ℓ} : {X : Type ℓ} (r : Reading) (ws : List ℤ) → are_words r ≡ false → r ≡ words ws → X
refused≢words r ws e f = absurd (subst T (sym (ap are_words f) ∙ e) tt)

accepting_words : (ws us : List ℤ) (p : Place) (o : Outcome) → contents_of ws ≡ o → accepting ws p o ≡ words us → (c : Contents) × (contents_of us ≡ accepted c)
accepting_words ws us p (accepted c) e f = (c, ap contents_of (sym (ap (words_in us) f)) ∙ e)
accepting_words ws us p (refused_for r) e f = refused≢words (accepting ws p (refused_for r)) us refl f

pub read_accepted : (bs : List ℕ) (ws : List ℤ) → read_text bs ≡ words ws → (c : Contents) × (contents_of ws ≡ accepted c)
unfolding read_text
read_accepted bs ws e = by (run table (tokens bs)) e
  where
    by : (r : Result Sofar) → read_by bs r ≡ words ws → (c : Contents) × (contents_of ws ≡ accepted c)
    by (made s ts) f = accepting_words (encode (contents s)) ws (place_of bs (length bs)) (contents_of (encode (contents s))) refl f
    by (failed w k) f = refused≢words (read_by bs (failed w k)) ws refl f

-- ---- two tables with the same text have the same words

pub text_unique : (t u : List ℤ) (c d : Contents) → contents_of t ≡ accepted c → contents_of u ≡ accepted d → text_of c ≡ text_of d → t ≡ u
text_unique t u c d e f h = ap (words_in t) (sym (read_back t c e) ∙ ap read_text h ∙ read_back u d f)
