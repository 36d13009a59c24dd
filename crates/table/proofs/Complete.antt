-- The encoding of what is within 01's ranges is read, and read as what it encodes: nothing good is refused. Assumes nothing.
use mathlib.Core.Path.{◌≡◌, refl, sym, ap, ◌∙◌, subst}
use mathlib.Core.Bool.{Bool, true, false, ◌||◌}
use mathlib.Core.List.{List, [], ◌∷◌, ◌++◌, map, append_assoc}
use mathlib.Core.Option.{none}
use Prim.Native.Nat.{ℕ, suc, ◌≤◌}
use lib.IntN.{ℤ, pos, negsuc, nat_abs}
use lib.ListN.{length, length-map}
use lib.Signed.{non_neg}
use Rattle.meaning.specs.Program.{Element, Aggregate}
use Rattle.table.specs.Roles.{Role, count, quantity, member, fault, Format, done, ◌>>=◌, read, run}
use Rattle.table.specs.Contents.{NumberedRule, Contents, Each, Ascending, AggregateInRange, RuleInRange, InRange, function_code, comparison_code, encode_list, encode_atoms, encode_elements, encode_aggregate, encode_rule, encode_all, encode}
use Rattle.table.specs.Grammar.{one, times, members, list, atoms, elements, aggregate, rule, aggregates, rules, table}
use Rattle.table.proofs.Run.{run_done, run_good, bind_on}
use Rattle.table.proofs.Faults.{count_in_lem, quantity_within, within_plain, member_in}
use Rattle.table.proofs.Sections.{function_word, comparison_word, threshold_word, made, after1, after2, after3, after4, pos_list, neg_list, last_list}
use Rattle.table.proofs.LaidAggregates.{function_back, function_most, comparison_back, comparison_most}
use Rattle.table.proofs.LaidRules.{atoms_back}

-- x is read from these words, and the rest is left
abbrev pub Reads : {A : Type 0} → Format A → ℕ → List ℤ → A → List ℤ → Type 0
Reads F i ws x rest = (j : ℕ) × (run F i ws ≡ read x j rest)

-- ---- a word, and one format after another

one_reads : (role : Role) (i : ℕ) (w : ℤ) (rest : List ℤ) → fault role i w ≡ none → Reads (one role) i (w ∷ rest) w rest
one_reads role i w rest e = (suc i, run_good role done i w rest e ∙ run_done w (suc i) rest)

count_reads : (most n i : ℕ) (rest : List ℤ) → n ≤ most → Reads (one (count most)) i (pos n ∷ rest) (pos n) rest
count_reads most n i rest h = one_reads (count most) i (pos n) rest (count_in_lem most i (pos n) refl h)

number_reads : (most n i : ℕ) (rest : List ℤ) → n ≤ most → Reads (one (quantity (pos 0) (pos most))) i (pos n ∷ rest) (pos n) rest
number_reads most n i rest h = one_reads (quantity (pos 0) (pos most)) i (pos n) rest (quantity_within (pos 0) (pos most) i (pos n) (within_plain n most h))

module _ {A B : Type 0} where
  then_reads : (F : Format A) (f : A → Format B) (i : ℕ) (ws : List ℤ) (x : A) (mid : List ℤ) (y : B) (rest : List ℤ)
      → Reads F i ws x mid → ((j : ℕ) → Reads (f x) j mid y rest) → Reads (F >>= f) i ws y rest
  then_reads F f i ws x mid y rest a b =
      let g = b a.0 in
      (g.0, bind_on F f i ws x a.0 mid a.1 ∙ g.1)

  made_reads : (F : Format A) (f : A → B) (i : ℕ) (ws : List ℤ) (x : A) (rest : List ℤ) → Reads F i ws x rest → Reads (F >>= λ y. done (f y)) i ws (f x) rest
  made_reads F f i ws x rest a = then_reads F (λ y. done (f y)) i ws x rest (f x) rest a (λ j. (j, run_done (f x) j rest))

-- ---- lists

abbrev Signs : Bool → List ℤ → Type 0
Signs signed l = Each (λ w. (non_neg w || signed) ≡ true) l

members_reads : (signed : Bool) (top previous i : ℕ) (l rest : List ℤ) → Ascending top previous (map nat_abs l) → Signs signed l
    → Reads (members signed top previous (length l)) i (l ++ rest) l rest
unfolding members
members_reads signed top previous i [] rest a s = (i, run_done [] i rest)
members_reads signed top previous i (w ∷ l) rest a s =
    then_reads (one (member signed top previous)) (λ v. members signed top (nat_abs v) (length l) >>= λ m. done (v ∷ m)) i (w ∷ (l ++ rest)) w (l ++ rest) (w ∷ l) rest
    (one_reads (member signed top previous) i w (l ++ rest) (member_in signed top previous i w s.0 a.1 a.0))
    (λ j. made_reads (members signed top (nat_abs w) (length l)) (λ m. w ∷ m) j (l ++ rest) l rest (members_reads signed top (nat_abs w) j l rest a.2 s.1))

list_reads : (most : ℕ) (signed : Bool) (top i : ℕ) (l rest : List ℤ) → length l ≤ most → Ascending top 0 (map nat_abs l) → Signs signed l
    → Reads (list most signed top) i (encode_list l ++ rest) l rest
unfolding list
list_reads most signed top i l rest h a s =
    then_reads (one (count most)) (λ n. members signed top 0 (nat_abs n)) i (encode_list l ++ rest) (pos (length l)) (l ++ rest) l rest
    (count_reads most (length l) i (l ++ rest) h)
    (λ j. members_reads signed top 0 j l rest a s)

plain_signs : (signed : Bool) (l : List ℕ) → Signs signed (map pos l)
plain_signs signed [] = tt
plain_signs signed (x ∷ l) = (refl, plain_signs signed l)

true_signs : (l : List ℤ) → Signs true l
true_signs [] = tt
true_signs (w ∷ l) = (either (non_neg w), true_signs l)
  where
    either : (b : Bool) → (b || true) ≡ true
    either true = refl
    either false = refl

atoms_reads : (most top i : ℕ) (l : List ℕ) (rest : List ℤ) → length l ≤ most → Ascending top 0 l → Reads (atoms most top) i (encode_atoms l ++ rest) l rest
unfolding atoms
atoms_reads most top i l rest h a =
    let b = atoms_back l in
    let r = made_reads (list most false top) (map nat_abs) i (encode_atoms l ++ rest) (map pos l) rest
    (list_reads most false top i (map pos l) rest (rw (length-map l pos) h) (subst (Ascending top 0) (sym b) a) (plain_signs false l)) in
    (r.0, r.1 ∙ ap (λ (m : List ℕ). read m r.0 rest) b)

-- ---- aggregates

abbrev element : ℤ → ℤ → Element
element v p = record { value = nat_abs v; atom = nat_abs p }

elements_reads : (top previous i : ℕ) (es : List Element) (rest : List ℤ) → Each (λ e. e.value ≤ 65535) es
    → Ascending top previous (map (λ (e : Element). e.atom) es) → Reads (elements top previous (length es)) i (encode_elements es ++ rest) es rest
unfolding elements
elements_reads top previous i [] rest v a = (i, run_done [] i rest)
elements_reads top previous i (e ∷ es) rest v a =
    then_reads (one (quantity (pos 0) (pos 65535)))
    (λ x. one (member false top previous) >>= λ p. elements top (nat_abs p) (length es) >>= λ l. done (element x p ∷ l))
    i (encode_elements (e ∷ es) ++ rest) (pos e.value) (pos e.atom ∷ (encode_elements es ++ rest)) (e ∷ es) rest
    (number_reads 65535 e.value i (pos e.atom ∷ (encode_elements es ++ rest)) v.0)
    (λ j.
    then_reads (one (member false top previous)) (λ p. elements top (nat_abs p) (length es) >>= λ l. done (element (pos e.value) p ∷ l))
    j (pos e.atom ∷ (encode_elements es ++ rest)) (pos e.atom) (encode_elements es ++ rest) (e ∷ es) rest
    (one_reads (member false top previous) j (pos e.atom) (encode_elements es ++ rest) (member_in false top previous j (pos e.atom) refl a.1 a.0))
    (λ k. made_reads (elements top e.atom (length es)) (λ l. e ∷ l) k (encode_elements es ++ rest) es rest (elements_reads top e.atom k es rest v.1 a.2)))

pub aggregate_reads : (top i : ℕ) (a : Aggregate) (rest : List ℤ) → AggregateInRange top a → Reads (aggregate top) i (encode_aggregate a ++ rest) a rest
unfolding aggregate encode_aggregate
aggregate_reads top i a rest r =
    let f = pos (function_code a.function) in
    let c = pos (comparison_code a.comparison) in
    let b = a.threshold in
    let n = pos (length a.elements) in
    let ws = encode_elements a.elements ++ rest in
    let whole : made f c b a.elements ≡ a = λ s. record {
      function = function_back a.function s;
      comparison = comparison_back a.comparison s;
      threshold = b;
      elements = a.elements;
    } in
    let g = then_reads function_word (after1 top) i (f ∷ c ∷ b ∷ n ∷ ws) f (c ∷ b ∷ n ∷ ws) (made f c b a.elements) rest
    (number_reads 3 (function_code a.function) i (c ∷ b ∷ n ∷ ws) (function_most a.function))
    (λ j. then_reads comparison_word (after2 top f) j (c ∷ b ∷ n ∷ ws) c (b ∷ n ∷ ws) (made f c b a.elements) rest
    (number_reads 1 (comparison_code a.comparison) j (b ∷ n ∷ ws) (comparison_most a.comparison))
    (λ k. then_reads threshold_word (after3 top f c) k (b ∷ n ∷ ws) b (n ∷ ws) (made f c b a.elements) rest
    (one_reads (quantity (negsuc 0) (pos 4194304)) k b (n ∷ ws) (quantity_within (negsuc 0) (pos 4194304) k b r.threshold))
    (λ l. then_reads (one (count 64)) (after4 top f c b) l (n ∷ ws) n ws (made f c b a.elements) rest
    (count_reads 64 (length a.elements) l ws r.few)
    (λ m. made_reads (elements top 0 (length a.elements)) (made f c b) m ws a.elements rest (elements_reads top 0 m a.elements rest r.values r.atoms))))) in
    (g.0, g.1 ∙ ap (λ (x : Aggregate). read x g.0 rest) whole)

-- ---- rules

four : (a b c d rest : List ℤ) → (a ++ (b ++ (c ++ d))) ++ rest ≡ a ++ (b ++ (c ++ (d ++ rest)))
four a b c d rest =
    append_assoc a (b ++ (c ++ d)) rest ∙ ap (λ (m : List ℤ). a ++ m) (append_assoc b (c ++ d) rest ∙ ap (λ (m : List ℤ). b ++ m) (append_assoc c d rest))

pub rule_reads : (top most i : ℕ) (r : NumberedRule) (rest : List ℤ) → RuleInRange top most r → Reads (rule top most) i (encode_rule r ++ rest) r rest
unfolding rule encode_rule
rule_reads top most i r rest g =
    let h = encode_atoms r.head in
    let p = encode_atoms r.pos in
    let n = encode_atoms r.neg in
    let l = encode_list r.aggs in
    let x = then_reads (atoms 16 top) (pos_list top most) i (h ++ (p ++ (n ++ (l ++ rest)))) r.head (p ++ (n ++ (l ++ rest))) r rest
    (atoms_reads 16 top i r.head (p ++ (n ++ (l ++ rest))) g.few_head g.head)
    (λ j. then_reads (atoms 64 top) (neg_list top most r.head) j (p ++ (n ++ (l ++ rest))) r.pos (n ++ (l ++ rest)) r rest
    (atoms_reads 64 top j r.pos (n ++ (l ++ rest)) g.few_pos g.pos)
    (λ k. then_reads (atoms 64 top) (last_list most r.head r.pos) k (n ++ (l ++ rest)) r.neg (l ++ rest) r rest
    (atoms_reads 64 top k r.neg (l ++ rest) g.few_neg g.neg)
    (λ m. made_reads (list 8 true most) (λ y. record { head = r.head; pos = r.pos; neg = r.neg; aggs = y }) m (l ++ rest) r.aggs rest
    (list_reads 8 true most m r.aggs rest g.few_aggs g.aggs (true_signs r.aggs))))) in
    (x.0, ap (run (rule top most) i) (four h p n l rest) ∙ x.1)

-- ---- the sections and the whole

module _ {A : Type 0} (F : Format A) (encodeOne : A → List ℤ) (P : A → Type 0)
    (reads : (i : ℕ) (x : A) (rest : List ℤ) → P x → Reads F i (encodeOne x ++ rest) x rest) where
  times_reads : (i : ℕ) (xs : List A) (rest : List ℤ) → Each P xs → Reads (times (length xs) F) i (encode_all encodeOne xs ++ rest) xs rest
  unfolding times
  times_reads i [] rest p = (i, run_done [] i rest)
  times_reads i (x ∷ xs) rest p =
      let ws = encode_all encodeOne xs ++ rest in
      let g = then_reads F (λ y. times (length xs) F >>= λ ys. done (y ∷ ys)) i (encodeOne x ++ ws) x ws (x ∷ xs) rest (reads i x ws p.0)
      (λ j. made_reads (times (length xs) F) (λ ys. x ∷ ys) j ws xs rest (times_reads j xs rest p.1)) in
      (g.0, ap (run (times (suc (length xs)) F) i) (append_assoc (encodeOne x) (encode_all encodeOne xs) rest) ∙ g.1)

  section_reads : (most i : ℕ) (xs : List A) (rest : List ℤ) → length xs ≤ most → Each P xs
      → Reads (one (count most) >>= λ n. times (nat_abs n) F) i (pos (length xs) ∷ (encode_all encodeOne xs ++ rest)) xs rest
  section_reads most i xs rest h p =
      then_reads (one (count most)) (λ n. times (nat_abs n) F) i (pos (length xs) ∷ (encode_all encodeOne xs ++ rest)) (pos (length xs)) (encode_all encodeOne xs ++ rest) xs rest
      (count_reads most (length xs) i (encode_all encodeOne xs ++ rest) h)
      (λ j. times_reads j xs rest p)

pub table_reads : (i : ℕ) (c : Contents) (rest : List ℤ) → InRange c → Reads table i (encode c ++ rest) c rest
unfolding table aggregates rules encode
table_reads i c rest r =
    let n = c.atoms in
    let gs = c.aggregates in
    let rs = pos (length c.rules) ∷ (encode_all encode_rule c.rules ++ rest) in
    let ws = pos (length gs) ∷ (encode_all encode_aggregate gs ++ rs) in
    let split : (encode_all encode_aggregate gs ++ (pos (length c.rules) ∷ encode_all encode_rule c.rules)) ++ rest ≡ encode_all encode_aggregate gs ++ rs =
    append_assoc (encode_all encode_aggregate gs) (pos (length c.rules) ∷ encode_all encode_rule c.rules) rest in
    let g = then_reads (one (count 256)) (λ w. aggregates (nat_abs w) >>= λ as'. rules (nat_abs w) (length as') >>= λ ls. done (record { atoms = nat_abs w; aggregates = as'; rules = ls }))
    i (pos n ∷ ws) (pos n) ws c rest
    (count_reads 256 n i ws r.few_atoms)
    (λ j. then_reads (aggregates n) (λ as'. rules n (length as') >>= λ ls. done (record { atoms = n; aggregates = as'; rules = ls })) j ws gs rs c rest
    (section_reads (aggregate n) encode_aggregate (AggregateInRange n) (aggregate_reads n) 64 j gs rs r.few_aggregates r.aggregates)
    (λ k. made_reads (rules n (length gs)) (λ ls. record { atoms = n; aggregates = gs; rules = ls }) k rs c.rules rest
    (section_reads (rule n (length gs)) encode_rule (RuleInRange n (length gs)) (rule_reads n (length gs)) 1024 k c.rules rest r.few_rules r.rules))) in
    (g.0, ap (λ (m : List ℤ). run table i (pos n ∷ pos (length gs) ∷ m)) split ∙ g.1)
