-- What was read is the encoding of what is within 01's ranges: nothing bad is taken. Assumes nothing.
use mathlib.Core.Path.{◌≡◌, refl, sym, ap, ◌∙◌, subst}
use mathlib.Core.Bool.{Bool, true, false, ◌||◌}
use mathlib.Core.List.{List, [], ◌∷◌, ◌++◌, map, append_assoc}
use mathlib.Core.Option.{none}
use Prim.Native.Nat.{ℕ, zero, suc, ◌≤◌}
use native.Mathlib.Omega.{arith}
use lib.Dec.{T}
use lib.IntN.{ℤ, pos, negsuc, nat_abs}
use lib.ListN.{length, length-map}
use lib.Signed.{non_neg}
use Rattle.meaning.specs.Program.{Element, Aggregate}
use Rattle.layout.specs.Layout.{function_by, comparison_by}
use Rattle.table.specs.Roles.{Role, count, quantity, member, fault, Format, done, ◌>>=◌, read, run}
use Rattle.table.specs.Contents.{NumberedRule, Each, Ascending, AggregateInRange, RuleInRange, function_code, comparison_code, encode_list, encode_atoms, encode_elements, encode_aggregate, encode_rule, encode_all}
use Rattle.table.specs.Grammar.{one, times, members, list, atoms, elements, aggregate, rule}
use Rattle.table.proofs.Run.{run_done, same_what, same_index, same_words, taken, both}
use Rattle.table.proofs.Faults.{count_good, quantity_good, within_number, member_good}
use Rattle.table.proofs.Sections.{function_word, comparison_word, threshold_word, made, after1, after2, after3, after4, pos_list, neg_list, last_list}

-- ---- a word, and what is made of what was read

pub record Read (role : Role) (i : ℕ) (ws : List ℤ) (w : ℤ) (j : ℕ) (rest : List ℤ) : Type 0 where
  pub there : ws ≡ w ∷ rest
  pub good : fault role i w ≡ none
  pub next : suc i ≡ j

pub one_sound : (role : Role) (i : ℕ) (ws : List ℤ) (w : ℤ) (j : ℕ) (rest : List ℤ) → run (one role) i ws ≡ read w j rest → Read role i ws w j rest
one_sound role i ws w j rest e =
    let t = taken role done i ws w j rest e in
    let h = sym (run_done t.w (suc i) t.after) ∙ t.on in
    record {
      there = t.there ∙ ap (λ (v : ℤ). v ∷ t.after) (same_what h) ∙ ap (λ (vs : List ℤ). w ∷ vs) (same_words h);
      good = ap (fault role i) (sym (same_what h)) ∙ t.good;
      next = same_index h;
    }

module _ {A B : Type 0} where
  pub mapped : (F : Format A) (f : A → B) (i : ℕ) (ws : List ℤ) (y : B) (j : ℕ) (rest : List ℤ)
      → run (F >>= λ x. done (f x)) i ws ≡ read y j rest → (x : A) × (f x ≡ y) × (run F i ws ≡ read x j rest)
  mapped F f i ws y j rest e =
      let b = both F (λ x. done (f x)) i ws y j rest e in
      let h = sym (run_done (f b.x) b.k b.mid) ∙ b.second in
      (b.x, same_what h, b.first ∙ ap (λ (k : ℕ). read b.x k b.mid) (same_index h) ∙ ap (λ (vs : List ℤ). read b.x j vs) (same_words h))

-- ---- lists

-- without signs, a list is that of its numbers
unsigned : (w : ℤ) → (non_neg w || false) ≡ true → pos (nat_abs w) ≡ w
unsigned (pos n) h = refl
unsigned (negsuc n) h = absurd (subst T (sym h) tt)

pub record Members (signed : Bool) (top previous n : ℕ) (ws l rest : List ℤ) : Type 0 where
  pub there : ws ≡ l ++ rest
  pub number : length l ≡ n
  pub ascending : Ascending top previous (map nat_abs l)
  pub plain : signed ≡ false → map pos (map nat_abs l) ≡ l

pub members_sound : (signed : Bool) (top previous n i : ℕ) (ws l : List ℤ) (j : ℕ) (rest : List ℤ)
    → run (members signed top previous n) i ws ≡ read l j rest → Members signed top previous n ws l rest
unfolding members
members_sound signed top previous zero i ws l j rest e =
    let h = sym (run_done [] i ws) ∙ e in
    let k : ◌≡◌ {A = List ℤ} [] l = same_what h in
    record {
      there = same_words h ∙ ap (λ (m : List ℤ). m ++ rest) k;
      number = sym (ap length k);
      ascending = subst (λ (m : List ℤ). Ascending top previous (map nat_abs m)) k tt;
      plain = λ s. subst (λ (m : List ℤ). map pos (map nat_abs m) ≡ m) k refl;
    }
members_sound signed top previous (suc n) i ws l j rest e =
    let b = both (one (member signed top previous)) (λ w. members signed top (nat_abs w) n >>= λ m. done (w ∷ m)) i ws l j rest e in
    let o = one_sound (member signed top previous) i ws b.x b.k b.mid b.first in
    let g = member_good signed top previous i b.x o.good in
    let d = mapped (members signed top (nat_abs b.x) n) (λ m. b.x ∷ m) b.k b.mid l j rest b.second in
    let h = members_sound signed top (nat_abs b.x) n b.k b.mid d.0 j rest d.2 in
    record {
      there = o.there ∙ ap (λ (m : List ℤ). b.x ∷ m) h.there ∙ ap (λ (m : List ℤ). m ++ rest) d.1;
      number = sym (ap length d.1) ∙ ap suc h.number;
      ascending = subst (λ (m : List ℤ). Ascending top previous (map nat_abs m)) d.1 (g.above, g.most, h.ascending);
      plain = λ s. subst (λ (m : List ℤ). map pos (map nat_abs m) ≡ m) d.1 (cons (unsigned b.x (subst (λ (t : Bool). (non_neg b.x || t) ≡ true) s g.sign)) (h.plain s));
    }
  where
    cons : {v w : ℤ} {k m : List ℤ} → v ≡ w → k ≡ m → ◌≡◌ {A = List ℤ} (v ∷ k) (w ∷ m)
    cons p q = λ t. p t ∷ q t

pub record Listing (most : ℕ) (signed : Bool) (top : ℕ) (ws l rest : List ℤ) : Type 0 where
  pub there : ws ≡ encode_list l ++ rest
  pub few : length l ≤ most
  pub ascending : Ascending top 0 (map nat_abs l)
  pub plain : signed ≡ false → map pos (map nat_abs l) ≡ l

pub list_sound : (most : ℕ) (signed : Bool) (top i : ℕ) (ws l : List ℤ) (j : ℕ) (rest : List ℤ)
    → run (list most signed top) i ws ≡ read l j rest → Listing most signed top ws l rest
unfolding list
list_sound most signed top i ws l j rest e =
    let b = both (one (count most)) (λ n. members signed top 0 (nat_abs n)) i ws l j rest e in
    let o = one_sound (count most) i ws b.x b.k b.mid b.first in
    let g = count_good most i b.x o.good in
    let h = members_sound signed top 0 (nat_abs b.x) b.k b.mid l j rest b.second in
    let n : b.x ≡ pos (length l) = sym g.0 ∙ ap pos (sym h.number) in
    record {
      there = o.there ∙ ap (λ (v : ℤ). v ∷ b.mid) n ∙ ap (λ (m : List ℤ). pos (length l) ∷ m) h.there;
      few = rw h.number g.1;
      ascending = h.ascending;
      plain = h.plain;
    }

pub record Atoms (most top : ℕ) (ws : List ℤ) (l : List ℕ) (rest : List ℤ) : Type 0 where
  pub there : ws ≡ encode_atoms l ++ rest
  pub few : length l ≤ most
  pub ascending : Ascending top 0 l

pub atoms_sound : (most top i : ℕ) (ws : List ℤ) (l : List ℕ) (j : ℕ) (rest : List ℤ) → run (atoms most top) i ws ≡ read l j rest → Atoms most top ws l rest
unfolding atoms
atoms_sound most top i ws l j rest e =
    let d = mapped (list most false top) (map nat_abs) i ws l j rest e in
    let h = list_sound most false top i ws d.0 j rest d.2 in
    let p : d.0 ≡ map pos l = sym (h.plain refl) ∙ ap (map pos) d.1 in
    record {
      there = h.there ∙ ap (λ (m : List ℤ). encode_list m ++ rest) p;
      few = rw (sym (ap length d.1) ∙ length-map d.0 nat_abs) h.few;
      ascending = subst (Ascending top 0) d.1 h.ascending;
    }

-- ---- aggregates

pub record Elements (top previous n : ℕ) (ws : List ℤ) (es : List Element) (rest : List ℤ) : Type 0 where
  pub there : ws ≡ encode_elements es ++ rest
  pub number : length es ≡ n
  pub values : Each (λ e. e.value ≤ 65535) es
  pub ascending : Ascending top previous (map (λ (e : Element). e.atom) es)

abbrev element : ℤ → ℤ → Element
element v p = record { value = nat_abs v; atom = nat_abs p }

pub elements_sound : (top previous n i : ℕ) (ws : List ℤ) (es : List Element) (j : ℕ) (rest : List ℤ)
    → run (elements top previous n) i ws ≡ read es j rest → Elements top previous n ws es rest
unfolding elements
elements_sound top previous zero i ws es j rest e =
    let h = sym (run_done [] i ws) ∙ e in
    let k : ◌≡◌ {A = List Element} [] es = same_what h in
    record {
      there = same_words h ∙ ap (λ (m : List Element). encode_elements m ++ rest) k;
      number = sym (ap length k);
      values = subst (Each (λ e. e.value ≤ 65535)) k tt;
      ascending = subst (λ (m : List Element). Ascending top previous (map (λ (e : Element). e.atom) m)) k tt;
    }
elements_sound top previous (suc n) i ws es j rest e =
    let a = both (one (quantity (pos 0) (pos 65535))) (λ v. one (member false top previous) >>= λ p. elements top (nat_abs p) n >>= λ l. done (element v p ∷ l)) i ws es j rest e in
    let u = one_sound (quantity (pos 0) (pos 65535)) i ws a.x a.k a.mid a.first in
    let v = within_number a.x 65535 (quantity_good (pos 0) (pos 65535) i a.x u.good) in
    let b = both (one (member false top previous)) (λ p. elements top (nat_abs p) n >>= λ l. done (element a.x p ∷ l)) a.k a.mid es j rest a.second in
    let o = one_sound (member false top previous) a.k a.mid b.x b.k b.mid b.first in
    let g = member_good false top previous a.k b.x o.good in
    let d = mapped (elements top (nat_abs b.x) n) (λ l. element a.x b.x ∷ l) b.k b.mid es j rest b.second in
    let h = elements_sound top (nat_abs b.x) n b.k b.mid d.0 j rest d.2 in
    record {
      there = u.there ∙ ap (λ (m : List ℤ). a.x ∷ m) (o.there ∙ ap (λ (m : List ℤ). b.x ∷ m) h.there)
          ∙ (λ t. sym v.0 t ∷ sym (unsigned b.x g.sign) t ∷ (encode_elements d.0 ++ rest))
          ∙ ap (λ (m : List Element). encode_elements m ++ rest) d.1;
      number = sym (ap length d.1) ∙ ap suc h.number;
      values = subst (Each (λ e. e.value ≤ 65535)) d.1 (v.1, h.values);
      ascending = subst (λ (m : List Element). Ascending top previous (map (λ (e : Element). e.atom) m)) d.1 (g.above, g.most, h.ascending);
    }

function_coded : (n : ℕ) → n ≤ 3 → function_code (function_by n) ≡ n
function_coded zero h = refl
function_coded (suc zero) h = refl
function_coded (suc (suc zero)) h = refl
function_coded (suc (suc (suc zero))) h = refl
function_coded (suc (suc (suc (suc n)))) h = absurd (omega arith)

comparison_coded : (n : ℕ) → n ≤ 1 → comparison_code (comparison_by n) ≡ n
comparison_coded zero h = refl
comparison_coded (suc zero) h = refl
comparison_coded (suc (suc n)) h = absurd (omega arith)

pub record Aggregated (top : ℕ) (ws : List ℤ) (a : Aggregate) (rest : List ℤ) : Type 0 where
  pub there : ws ≡ encode_aggregate a ++ rest
  pub range : AggregateInRange top a

pub aggregate_sound : (top i : ℕ) (ws : List ℤ) (a : Aggregate) (j : ℕ) (rest : List ℤ) → run (aggregate top) i ws ≡ read a j rest → Aggregated top ws a rest
unfolding aggregate encode_aggregate
aggregate_sound top i ws a j rest e =
    let p = both function_word (after1 top) i ws a j rest e in
    let pr = one_sound (quantity (pos 0) (pos 3)) i ws p.x p.k p.mid p.first in
    let pg = within_number p.x 3 (quantity_good (pos 0) (pos 3) i p.x pr.good) in
    let q = both comparison_word (after2 top p.x) p.k p.mid a j rest p.second in
    let qr = one_sound (quantity (pos 0) (pos 1)) p.k p.mid q.x q.k q.mid q.first in
    let qg = within_number q.x 1 (quantity_good (pos 0) (pos 1) p.k q.x qr.good) in
    let b = both threshold_word (after3 top p.x q.x) q.k q.mid a j rest q.second in
    let br = one_sound (quantity (negsuc 0) (pos 4194304)) q.k q.mid b.x b.k b.mid b.first in
    let bg = quantity_good (negsuc 0) (pos 4194304) q.k b.x br.good in
    let n = both (one (count 64)) (after4 top p.x q.x b.x) b.k b.mid a j rest b.second in
    let nr = one_sound (count 64) b.k b.mid n.x n.k n.mid n.first in
    let ng = count_good 64 b.k n.x nr.good in
    let d = mapped (elements top 0 (nat_abs n.x)) (made p.x q.x b.x) n.k n.mid a j rest n.second in
    let h = elements_sound top 0 (nat_abs n.x) n.k n.mid d.0 j rest d.2 in
    let pc : p.x ≡ pos (function_code (function_by (nat_abs p.x))) = sym (ap pos (function_coded (nat_abs p.x) pg.1) ∙ pg.0) in
    let qc : q.x ≡ pos (comparison_code (comparison_by (nat_abs q.x))) = sym (ap pos (comparison_coded (nat_abs q.x) qg.1) ∙ qg.0) in
    let nc : n.x ≡ pos (length d.0) = sym (ap pos h.number ∙ ng.0) in
    record {
      there = pr.there ∙ ap (λ (m : List ℤ). p.x ∷ m) (qr.there ∙ ap (λ (m : List ℤ). q.x ∷ m) (br.there ∙ ap (λ (m : List ℤ). b.x ∷ m) (nr.there ∙ ap (λ (m : List ℤ). n.x ∷ m) h.there)))
          ∙ (λ t. pc t ∷ qc t ∷ b.x ∷ nc t ∷ (encode_elements d.0 ++ rest))
          ∙ ap (λ (x : Aggregate). encode_aggregate x ++ rest) d.1;
      range = subst (AggregateInRange top) d.1 (record { threshold = bg; few = rw h.number ng.1; values = h.values; atoms = h.ascending });
    }

-- ---- rules

pub record Ruled (top most : ℕ) (ws : List ℤ) (r : NumberedRule) (rest : List ℤ) : Type 0 where
  pub there : ws ≡ encode_rule r ++ rest
  pub range : RuleInRange top most r

-- four parts one after another, as they are written
four : (a b c d rest : List ℤ) → a ++ (b ++ (c ++ (d ++ rest))) ≡ (a ++ (b ++ (c ++ d))) ++ rest
four a b c d rest =
    ap (λ (m : List ℤ). a ++ m) (ap (λ (m : List ℤ). b ++ m) (sym (append_assoc c d rest)) ∙ sym (append_assoc b (c ++ d) rest)) ∙ sym (append_assoc a (b ++ (c ++ d)) rest)

pub rule_sound : (top most i : ℕ) (ws : List ℤ) (r : NumberedRule) (j : ℕ) (rest : List ℤ) → run (rule top most) i ws ≡ read r j rest → Ruled top most ws r rest
unfolding rule encode_rule
rule_sound top most i ws r j rest e =
    let h = both (atoms 16 top) (pos_list top most) i ws r j rest e in
    let hs = atoms_sound 16 top i ws h.x h.k h.mid h.first in
    let p = both (atoms 64 top) (neg_list top most h.x) h.k h.mid r j rest h.second in
    let ps = atoms_sound 64 top h.k h.mid p.x p.k p.mid p.first in
    let n = both (atoms 64 top) (last_list most h.x p.x) p.k p.mid r j rest p.second in
    let ns = atoms_sound 64 top p.k p.mid n.x n.k n.mid n.first in
    let d = mapped (list 8 true most) (λ l. record { head = h.x; pos = p.x; neg = n.x; aggs = l }) n.k n.mid r j rest n.second in
    let ls = list_sound 8 true most n.k n.mid d.0 j rest d.2 in
    record {
      there = hs.there
          ∙ ap (λ (m : List ℤ). encode_atoms h.x ++ m) (ps.there ∙ ap (λ (m : List ℤ). encode_atoms p.x ++ m) (ns.there ∙ ap (λ (m : List ℤ). encode_atoms n.x ++ m) ls.there))
          ∙ four (encode_atoms h.x) (encode_atoms p.x) (encode_atoms n.x) (encode_list d.0) rest
          ∙ ap (λ (x : NumberedRule). encode_rule x ++ rest) d.1;
      range = subst (RuleInRange top most) d.1
          (record { few_head = hs.few; head = hs.ascending; few_pos = ps.few; pos = ps.ascending; few_neg = ns.few; neg = ns.ascending; few_aggs = ls.few; aggs = ls.ascending });
    }

-- ---- n parts of one kind

pub record All {A : Type 0} (encodeOne : A → List ℤ) (P : A → Type 0) (n : ℕ) (ws : List ℤ) (xs : List A) (rest : List ℤ) : Type 0 where
  pub there : ws ≡ encode_all encodeOne xs ++ rest
  pub number : length xs ≡ n
  pub each : Each P xs

module _ {A : Type 0} (F : Format A) (encodeOne : A → List ℤ) (P : A → Type 0)
    (sound : (i : ℕ) (ws : List ℤ) (x : A) (j : ℕ) (rest : List ℤ) → run F i ws ≡ read x j rest → (ws ≡ encodeOne x ++ rest) × P x) where
  pub times_sound : (n i : ℕ) (ws : List ℤ) (xs : List A) (j : ℕ) (rest : List ℤ) → run (times n F) i ws ≡ read xs j rest → All encodeOne P n ws xs rest
  unfolding times
  times_sound zero i ws xs j rest e =
      let h = sym (run_done [] i ws) ∙ e in
      let k : ◌≡◌ {A = List A} [] xs = same_what h in
      record {
        there = same_words h ∙ ap (λ (m : List A). encode_all encodeOne m ++ rest) k;
        number = sym (ap length k);
        each = subst (Each P) k tt;
      }
  times_sound (suc n) i ws xs j rest e =
      let b = both F (λ x. times n F >>= λ m. done (x ∷ m)) i ws xs j rest e in
      let s = sound i ws b.x b.k b.mid b.first in
      let d = mapped (times n F) (λ m. b.x ∷ m) b.k b.mid xs j rest b.second in
      let h = times_sound n b.k b.mid d.0 j rest d.2 in
      record {
        there = s.0 ∙ ap (λ (m : List ℤ). encodeOne b.x ++ m) h.there ∙ sym (append_assoc (encodeOne b.x) (encode_all encodeOne d.0) rest)
            ∙ ap (λ (m : List A). encode_all encodeOne m ++ rest) d.1;
        number = sym (ap length d.1) ∙ ap suc h.number;
        each = subst (Each P) d.1 (s.1, h.each);
      }
