-- The tokens of a rule are read as that rule. A body is read literal by literal: `Reads` says that the tokens x of a literal lead from what was read before to what
-- is read then, `Chain` the same of several. Assumes nothing.
use mathlib.Core.Path.{◌≡◌, refl, sym, ap, ◌∙◌, subst}
use mathlib.Core.Bool.{Bool, true, false, not, ◌&&◌}
use mathlib.Core.List.{List, [], ◌∷◌, ◌++◌, map, append_assoc, append-nil}
use Prim.Native.Nat.{ℕ, zero, suc, ◌+◌, ◌≤◌, ◌<◌}
use native.Mathlib.Omega.{arith}
use borrow.Author.Tests.{lt-ltb, le-leb}
use lib.Dec.{leb}
use lib.IntN.{ℤ, negsuc, nat_abs}
use lib.ListN.{length}
use lib.Signed.{non_neg}
use Rattle.meaning.specs.Program.{Aggregate}
use Rattle.meaning.specs.declared.Function.{Function}
use Rattle.meaning.specs.declared.Function.TheVariants.{Count, Sum, Min, Max}
use Rattle.table.specs.Contents.{Ascending, AggregateInRange}
use Rattle.notation.specs.Tokens.{Token, number, word, mark}
use Rattle.notation.specs.Parser.{◌>>=◌, made, run, token, is_mark, last_from}
use Rattle.notation.specs.Aggregates.{aggregate}
use Rattle.notation.specs.Grammar.{Body, literal, literals, body, heads, word_literal, literal_from, with_literal, with_aggregate, signed}
use Rattle.notation.proofs.TokenLists.{joined_t, not_t, atom_t, rest_t, function_word}
use Rattle.notation.proofs.Runs.{bind, check_run, last_snoc, snoc_long, member_then}
use Rattle.notation.proofs.ReadAggregates.{aggregate_run, function_then}

-- ---- the atoms of a head

module _ (top : ℕ) (us : List Token) (u : Token) (h : is_mark 124 u ≡ false) where
  pub heads_run : (rest l : List ℕ) (n : ℕ) → length rest < n → Ascending top (last_from 0 l) rest → length l + length rest ≤ 16
      → run (token >>= heads n top l) (joined_t 124 true (map (atom_t false) rest) ++ (u ∷ us)) ≡ made (record { head = l ++ rest; after = u }) us
  unfolding heads run
  heads_run rest l zero g a m = absurd (omega arith)
  heads_run [] l (suc n) g a m = rw (h, run, heads) (ap (λ (x : List ℕ). made (record { head = x; after = u }) us) (sym (append-nil l)))
  heads_run (p ∷ rest) l (suc n) g a m =
      let s = snoc_long l p in
      let b : Ascending top (last_from 0 (l ++ (p ∷ []))) rest = subst (λ (q : ℕ). Ascending top q rest) (sym (last_snoc 0 l p)) a.2 in
      member_then 0 top 16 l p _ _ a.0 a.1 (omega arith)
      ∙ heads_run rest (l ++ (p ∷ [])) n (omega arith) b (omega arith)
      ∙ ap (λ (x : List ℕ). made (record { head = x; after = u }) us) (append_assoc l (p ∷ []) rest)

-- ---- literal by literal

pub record Reads (top : ℕ) (b : Body) (x : List Token) (m : Body) : Type 0 where
  pub first : Token
  pub others : List Token
  pub whole : x ≡ first ∷ others
  pub dotless : is_mark 46 first ≡ false
  pub reads : (us : List Token) → run (literal top b first) (others ++ us) ≡ made m us

abbrev pub Chain : ℕ → Body → List (List Token) → Body → Type 0
Chain top b [] m = b ≡ m
Chain top b (x ∷ xs) m = (c : Body) × Reads top b x c × Chain top c xs m

pub chain_append : (top : ℕ) (b c m : Body) (xs ys : List (List Token)) → Chain top b xs c → Chain top c ys m → Chain top b (xs ++ ys) m
chain_append top b c m [] ys e k = subst (λ (x : Body). Chain top x ys m) (sym e) k
chain_append top b c m (x ∷ xs) ys (d, r, f) k = (d, r, chain_append top d c m xs ys f k)

module _ (top : ℕ) (us : List Token) where
  literals_run : (xs : List (List Token)) (x : List Token) (b c m : Body) (n : ℕ) → length xs < n → (r : Reads top b x c) → Chain top c xs m
      → run (literals n top b r.first) (r.others ++ (joined_t 44 true xs ++ (mark 46 ∷ us))) ≡ made m us
  unfolding literals run
  literals_run xs x b c m zero h r k = absurd (omega arith)
  literals_run [] x b c m (suc n) h r k = bind (literal top b r.first) _ _ _ c (r.reads (mark 46 ∷ us)) ∙ ap (λ (y : Body). made y us) k
  literals_run (y ∷ xs) x b c m (suc n) h r (d, q, k) =
      bind (literal top b r.first) _ _ _ c (r.reads (mark 44 ∷ ((y ++ joined_t 44 true xs) ++ (mark 46 ∷ us))))
      ∙ ap (λ (z : List Token). run (token >>= literals n top c) ((z ++ joined_t 44 true xs) ++ (mark 46 ∷ us))) q.whole
      ∙ ap (λ (z : List Token). run (literals n top c q.first) z) (append_assoc q.others (joined_t 44 true xs) (mark 46 ∷ us))
      ∙ literals_run xs y c d m n (omega arith) q k

  abbrev empty : List Aggregate → Body
  empty gs = record { aggregates = gs; pos = []; neg = []; aggs = [] }

  pub body_run : (gs : List Aggregate) (xs : List (List Token)) (m : Body) → length xs ≤ 136 → Chain top (empty gs) xs m → run (body top gs) (joined_t 44 false xs ++ (mark 46 ∷ us)) ≡ made m us
  unfolding body run
  body_run gs [] m h k = ap (λ (y : Body). made y us) k
  body_run gs (x ∷ xs) m h (c, r, k) =
      ap (λ (z : List Token). run (body top gs) ((z ++ joined_t 44 true xs) ++ (mark 46 ∷ us))) r.whole
      ∙ ap (λ (z : List Token). run (body top gs) (r.first ∷ z)) (append_assoc r.others (joined_t 44 true xs) (mark 46 ∷ us))
      ∙ rw (r.dotless, run, body) (literals_run xs x (empty gs) c m 137 (omega arith) r k)

-- ---- atoms

abbrev pub body_of : List Aggregate → List ℕ → List ℕ → List ℤ → Body
body_of gs ps ns ws = record { aggregates = gs; pos = ps; neg = ns; aggs = ws }

module _ (top : ℕ) (gs : List Aggregate) (ws : List ℤ) where
  pub pos_chain : (ps l ns : List ℕ) → Ascending top (last_from 0 l) ps → length l + length ps ≤ 64 → Chain top (body_of gs l ns ws) (map (atom_t false) ps) (body_of gs (l ++ ps) ns ws)
  unfolding run
  pos_chain [] l ns a m = ap (λ (x : List ℕ). body_of gs x ns ws) (sym (append-nil l))
  pos_chain (p ∷ ps) l ns a m =
      let s = snoc_long l p in
      let b : Ascending top (last_from 0 (l ++ (p ∷ []))) ps = subst (λ (q : ℕ). Ascending top q ps) (sym (last_snoc 0 l p)) a.2 in
      let h : length l < 64 = omega arith in (
        body_of gs (l ++ (p ∷ [])) ns ws,
        record { first = number p; others = []; whole = refl; dotless = refl; reads = λ us. member_then 0 top 64 l p _ us a.0 a.1 h },
        subst (λ (x : List ℕ). Chain top (body_of gs (l ++ (p ∷ [])) ns ws) (map (atom_t false) ps) (body_of gs x ns ws)) (append_assoc l (p ∷ []) ps) (pos_chain ps (l ++ (p ∷ [])) ns b (omega arith)),
      )

  pub neg_chain : (ns l ps : List ℕ) → Ascending top (last_from 0 l) ns → length l + length ns ≤ 64 → Chain top (body_of gs ps l ws) (map (atom_t true) ns) (body_of gs ps (l ++ ns) ws)
  unfolding word_literal run
  neg_chain [] l ps a m = ap (λ (x : List ℕ). body_of gs ps x ws) (sym (append-nil l))
  neg_chain (p ∷ ns) l ps a m =
      let s = snoc_long l p in
      let b : Ascending top (last_from 0 (l ++ (p ∷ []))) ns = subst (λ (q : ℕ). Ascending top q ns) (sym (last_snoc 0 l p)) a.2 in
      let h : length l < 64 = omega arith in (
        body_of gs ps (l ++ (p ∷ [])) ws,
        record { first = word (110 ∷ 111 ∷ 116 ∷ []); others = number p ∷ []; whole = refl; dotless = refl; reads = λ us. member_then 0 top 64 l p _ us a.0 a.1 h },
        subst (λ (x : List ℕ). Chain top (body_of gs ps (l ++ (p ∷ [])) ws) (map (atom_t true) ns) (body_of gs ps x ws)) (append_assoc l (p ∷ []) ns) (neg_chain ns (l ++ (p ∷ [])) ps b (omega arith)),
      )

-- ---- aggregate literals

signed_is : (w : ℤ) → signed (non_neg w) (nat_abs w) ≡ w
signed_is (ℤ.pos n) = refl
signed_is (negsuc n) = refl

module _ (gs : List Aggregate) (ps ns : List ℕ) (l : List ℤ) (w : ℤ) (us : List Token) where
  with_run : last_from 0 (map nat_abs l) < nat_abs w → length l < 8 → run (with_literal (body_of gs ps ns l) w) us ≡ made (body_of gs ps ns (l ++ (w ∷ []))) us
  unfolding with_literal run
  with_run h k = check_run _ _ _ _ _ (lt-ltb (last_from 0 (map nat_abs l)) (nat_abs w) h) ∙ check_run _ _ _ _ _ (lt-ltb (length l) 8 k)

module _ (top : ℕ) (gs : List Aggregate) (ps ns : List ℕ) (l : List ℤ) (w : ℤ) (last : last_from 0 (map nat_abs l) < nat_abs w) (few : length l < 8) (us : List Token) where
  -- by its name
  pub name_run : nat_abs w ≤ length gs → run (literal_from top (non_neg w) (body_of gs ps ns l) (mark 35)) (number (nat_abs w) ∷ us) ≡ made (body_of gs ps ns (l ++ (w ∷ []))) us
  unfolding literal_from run
  name_run h =
      let z : 0 < nat_abs w = omega arith in
      check_run _ _ _ _ _ (ap (λ (b : Bool). b && leb (nat_abs w) (length gs)) (lt-ltb 0 (nat_abs w) z) ∙ le-leb (nat_abs w) (length gs) h)
      ∙ ap (λ (x : ℤ). run (with_literal (body_of gs ps ns l) x) us) (signed_is w)
      ∙ with_run gs ps ns l w us last few

  -- written out: it has the next number
  pub out_run : (a : Aggregate) → AggregateInRange top a → nat_abs w ≡ suc (length gs) → length gs < 64
      → run (literal_from top (non_neg w) (body_of gs ps ns l) (word (function_word a.function))) (rest_t a ++ us) ≡ made (body_of (gs ++ (a ∷ [])) ps ns (l ++ (w ∷ []))) us
  unfolding literal_from with_aggregate run
  out_run a r e h =
      function_then _ a.function _
      ∙ bind (aggregate top a.function) _ _ us a (aggregate_run top a us r)
      ∙ bind (with_aggregate gs a) _ us us (gs ++ (a ∷ [])) (check_run _ _ _ _ _ (lt-ltb (length gs) 64 h))
      ∙ ap (λ (j : ℕ). run (with_literal (body_of (gs ++ (a ∷ [])) ps ns l) (signed (non_neg w) j)) us) (snoc_long gs a ∙ sym e)
      ∙ ap (λ (x : ℤ). run (with_literal (body_of (gs ++ (a ∷ [])) ps ns l) x) us) (signed_is w)
      ∙ with_run (gs ++ (a ∷ [])) ps ns l w us last few

-- with its sign
module _ (top : ℕ) (b m : Body) (o : List Token) where
  pub reads_mark : (plain : Bool) → ((us : List Token) → run (literal_from top plain b (mark 35)) (o ++ us) ≡ made m us) → Reads top b (not_t (not plain) ++ (mark 35 ∷ o)) m
  unfolding word_literal run
  reads_mark true f = record { first = mark 35; others = o; whole = refl; dotless = refl; reads = f }
  reads_mark false f = record { first = word (110 ∷ 111 ∷ 116 ∷ []); others = mark 35 ∷ o; whole = refl; dotless = refl; reads = f }

  pub reads_word : (f : Function) (plain : Bool) → ((us : List Token) → run (literal_from top plain b (word (function_word f))) (o ++ us) ≡ made m us)
      → Reads top b (not_t (not plain) ++ (word (function_word f) ∷ o)) m
  unfolding word_literal run
  reads_word Count true g = record { first = word (function_word Count); others = o; whole = refl; dotless = refl; reads = g }
  reads_word Sum true g = record { first = word (function_word Sum); others = o; whole = refl; dotless = refl; reads = g }
  reads_word Min true g = record { first = word (function_word Min); others = o; whole = refl; dotless = refl; reads = g }
  reads_word Max true g = record { first = word (function_word Max); others = o; whole = refl; dotless = refl; reads = g }
  reads_word f false g = record { first = word (110 ∷ 111 ∷ 116 ∷ []); others = word (function_word f) ∷ o; whole = refl; dotless = refl; reads = g }
