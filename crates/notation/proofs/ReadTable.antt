-- The tokens of a table are read as that table. Assumes nothing.
use mathlib.Core.Path.{◌≡◌, refl, sym, ap, ◌∙◌}
use mathlib.Core.Bool.{true, false}
use mathlib.Core.List.{List, [], ◌∷◌, ◌++◌, map, append_assoc, append-nil}
use mathlib.Core.Option.{none, some}
use Prim.Native.Nat.{ℕ, zero, suc, ◌+◌, ◌-◌, ◌≤◌, ◌<◌}
use native.Mathlib.Omega.{arith}
use borrow.Author.Tests.{lt-ltb, le-leb, eq-eqb}
use lib.ListN.{length, length-map, length-append, take}
use lib.Seq.{length-take-le}
use Rattle.meaning.specs.Program.{Aggregate}
use Rattle.table.specs.Contents.{NumberedRule, Contents, Each, Ascending, AggregateInRange, RuleInRange, InRange}
use Rattle.notation.specs.Notation as notation
use Rattle.notation.specs.Notation.{turns, turns_all}
use Rattle.notation.specs.Tokens.{Token, number, word, neck, mark, end}
use Rattle.notation.specs.Parser.{◌>>=◌, made, run, token, is_mark}
use Rattle.notation.specs.Aggregates.{aggregate}
use Rattle.notation.specs.Grammar.{Body, Sofar, body, head_from, rule_from, with_rule, with_aggregate, numbered, atoms_given, name_given, statement, statements, table}
use Rattle.notation.proofs.TokenLists.{joined_t, atom_t, literal_t, aggregate_t, body_t, neck_t, rule_t, names_t, rules_t, table_t}
use Rattle.notation.proofs.Runs.{bind, check_run, snoc_long, member_then}
use Rattle.notation.proofs.InTurn.{all_first, Does}
use Rattle.notation.proofs.ReadAggregates.{aggregate_run, function_then}
use Rattle.notation.proofs.ReadRules.{Chain, chain_append, body_of, heads_run, body_run, pos_chain, neg_chain}
use Rattle.notation.proofs.ReadLiterals.{aggs_chain}

-- ---- the head

head_run : (top : ℕ) (p : ℕ) (hs : List ℕ) (u : Token) (us : List Token) → is_mark 124 u ≡ false → Ascending top 0 (p ∷ hs) → length (p ∷ hs) ≤ 16
    → run (head_from top (number p)) (joined_t 124 true (map (atom_t false) hs) ++ (u ∷ us)) ≡ made (record { head = p ∷ hs; after = u }) us
head_run top p hs u us h a m = member_then 0 top 16 [] p _ _ a.0 a.1 (omega arith) ∙ heads_run top us u h hs (p ∷ []) 17 (omega arith) a.2 (omega arith)

-- ---- a rule after its number

module _ (N : ℕ) (gs : List Aggregate) (before : List NumberedRule) where
  abbrev sofar : Sofar
  sofar = record { given = some N; aggregates = gs; rules = before }

  abbrev with_body : List ℕ → Body → Sofar
  with_body hs b = record { given = some N; aggregates = b.aggregates; rules = before ++ (record { head = hs; pos = b.pos; neg = b.neg; aggs = b.aggs } ∷ []) }

  with_rule_lem : (hs : List ℕ) (b : Body) (us : List Token) → length before < 1024 → run (with_rule sofar hs b) us ≡ made (with_body hs b) us
  unfolding with_rule run
  with_rule_lem hs b us h = check_run _ _ _ _ _ (lt-ltb (length before) 1024 h)

  -- the body and the dot
  body_then : (hs : List ℕ) (xs : List (List Token)) (b : Body) (us : List Token) → length before < 1024 → length xs ≤ 136 → Chain N (body_of gs [] [] []) xs b
      → run (body N gs >>= with_rule sofar hs) ((joined_t 44 false xs ++ (mark 46 ∷ [])) ++ us) ≡ made (with_body hs b) us
  body_then hs xs b us h l c =
      ap (run (body N gs >>= with_rule sofar hs)) (append_assoc (joined_t 44 false xs) (mark 46 ∷ []) us)
      ∙ bind (body N gs) (with_rule sofar hs) _ us b (body_run N us gs xs b l c)
      ∙ with_rule_lem hs b us h

  rule_run : (hs : List ℕ) (xs : List (List Token)) (b : Body) (us : List Token) → length before < 1024 → length xs ≤ 136 → Chain N (body_of gs [] [] []) xs b
      → Ascending N 0 hs → length hs ≤ 16
      → run (token >>= rule_from sofar) ((joined_t 124 false (map (atom_t false) hs) ++ (neck_t (notation.some hs) (notation.some xs) ++ (joined_t 44 false xs ++ (mark 46 ∷ [])))) ++ us) ≡ made (with_body hs b) us
  unfolding rule_from run
  rule_run [] xs b us h l c a m = body_then [] xs b us h l c
  rule_run (p ∷ hs) [] b us h l c a m =
      ap (λ (ts : List Token). run (rule_from sofar (number p)) ts) (append_assoc (joined_t 124 true (map (atom_t false) hs)) (mark 46 ∷ []) us)
      ∙ bind (head_from N (number p)) _ _ us (record { head = p ∷ hs; after = mark 46 }) (head_run N p hs (mark 46) us refl a m)
      ∙ with_rule_lem (p ∷ hs) (body_of gs [] [] []) us h
      ∙ ap (λ (x : Body). made (with_body (p ∷ hs) x) us) c
  rule_run (p ∷ hs) (x ∷ xs) b us h l c a m =
      ap (λ (ts : List Token). run (rule_from sofar (number p)) ts) (append_assoc (joined_t 124 true (map (atom_t false) hs)) (neck ∷ (joined_t 44 false (x ∷ xs) ++ (mark 46 ∷ []))) us)
      ∙ bind (head_from N (number p)) _ _ ((joined_t 44 false (x ∷ xs) ++ (mark 46 ∷ [])) ++ us) (record { head = p ∷ hs; after = neck }) (head_run N p hs neck _ refl a m)
      ∙ body_then (p ∷ hs) (x ∷ xs) b us h l c

-- ---- the rules, and the end

module _ (N d : ℕ) (all : List Aggregate) (ranges : Each (AggregateInRange N) all) (few : length all ≤ 64) where
  abbrev at_rule : ℕ → List NumberedRule → Sofar
  at_rule g before = sofar N (take g all) before

  chain_of : (g m : ℕ) (r : NumberedRule) → RuleInRange N (length all) r → d ≤ g → g ≤ length all → turns d (suc g) r.aggs ≡ suc m
      → (d ≤ m) × (m ≤ length all) × Chain N (body_of (take g all) [] [] []) (body_t d all r.pos r.neg r.aggs) (body_of (take m all) r.pos r.neg r.aggs)
  chain_of g m r h i k e =
      let p = pos_chain N (take g all) [] r.pos [] [] h.pos (let z = h.few_pos in omega arith) in
      let q = neg_chain N (take g all) [] r.neg [] r.pos h.neg (let z = h.few_neg in omega arith) in
      let w = aggs_chain N d all ranges few r.pos r.neg r.aggs g m [] i k e h.aggs (let z = h.few_aggs in omega arith) in (
        w.0,
        w.1,
        chain_append N _ (body_of (take g all) r.pos [] []) _ (map (atom_t false) r.pos) _ p
            (chain_append N _ (body_of (take g all) r.pos r.neg []) _ (map (atom_t true) r.neg) _ q w.2),
      )

  parts_few : (r : NumberedRule) → RuleInRange N (length all) r → length (body_t d all r.pos r.neg r.aggs) ≤ 136
  parts_few r h =
      let a = length-append (map (atom_t false) r.pos) (map (atom_t true) r.neg ++ map (literal_t d all) r.aggs) in
      let b = length-append (map (atom_t true) r.neg) (map (literal_t d all) r.aggs) in
      let x = length-map r.pos (atom_t false) in
      let y = length-map r.neg (atom_t true) in
      let z = length-map r.aggs (literal_t d all) in
      let i = h.few_pos in
      let j = h.few_neg in
      let k = h.few_aggs in
      omega arith

  line_run : (g m : ℕ) (before : List NumberedRule) (r : NumberedRule) (us : List Token) → RuleInRange N (length all) r → length before < 1024
      → Chain N (body_of (take g all) [] [] []) (body_t d all r.pos r.neg r.aggs) (body_of (take m all) r.pos r.neg r.aggs)
      → run (statement (at_rule g before) (number (suc (length before)))) (mark 58 ∷ (rule_t d all r ++ us)) ≡ made (at_rule m (before ++ (r ∷ []))) us
  unfolding numbered run
  line_run g m before r us h l c =
      check_run _ _ _ _ _ (eq-eqb (suc (length before)) (suc (length before)) refl)
      ∙ rule_run N (take g all) before r.head (body_t d all r.pos r.neg r.aggs) (body_of (take m all) r.pos r.neg r.aggs) us l (parts_few r h) c h.head h.few_head

  rules_run : (rs before : List NumberedRule) (g n : ℕ) (us : List Token) → length rs < n → d ≤ g → g ≤ length all → turns_all d (suc g) rs ≡ suc (length all)
      → Each (RuleInRange N (length all)) rs → length before + length rs ≤ 1024
      → run (statements n (at_rule g before)) (rules_t d all (suc (length before)) rs ++ (end ∷ us)) ≡ made (at_rule (length all) (before ++ rs)) us
  unfolding statements turns_all run
  rules_run rs before g zero us h i k e c l = absurd (omega arith)
  rules_run [] before g (suc n) us h i k e c l =
      let q : g ≡ length all = omega arith in
      ap (λ (x : ℕ). made (at_rule x before) us) q ∙ ap (λ (x : List NumberedRule). made (at_rule (length all) x) us) (sym (append-nil before))
  rules_run (r ∷ rs) before g (suc n) us h i k e c l =
      let f = all_first d N (length all) (suc g) (length all) r rs c.1 e in
      let m = f.0 in
      let w = chain_of g f.0 r c.0 i k f.1 in
      let s = snoc_long before r in
      ap (λ (ts : List Token). run (statements (suc n) (at_rule g before)) (number (suc (length before)) ∷ mark 58 ∷ ts)) (append_assoc (rule_t d all r) (rules_t d all (suc (suc (length before))) rs) (end ∷ us))
      ∙ bind (statement (at_rule g before) (number (suc (length before)))) _ _ _ (at_rule f.0 (before ++ (r ∷ []))) (line_run g f.0 before r (rules_t d all (suc (suc (length before))) rs ++ (end ∷ us)) c.0 (omega arith) w.2)
      ∙ ap (λ (x : ℕ). run (statements n (at_rule f.0 (before ++ (r ∷ [])))) (rules_t d all (suc x) rs ++ (end ∷ us))) (sym s)
      ∙ rules_run rs (before ++ (r ∷ [])) f.0 n us (omega arith) w.0 w.1 f.2 c.1 (omega arith)
      ∙ ap (λ (x : List NumberedRule). made (at_rule (length all) x) us) (append_assoc before (r ∷ []) rs)

-- ---- the names

module _ (N : ℕ) where
  name_run : (before : List Aggregate) (a : Aggregate) (us : List Token) → AggregateInRange N a → length before < 64
      → run (statement (sofar N before []) (mark 35)) (number (suc (length before)) ∷ mark 61 ∷ (aggregate_t a ++ (mark 46 ∷ us))) ≡ made (sofar N (before ++ (a ∷ [])) []) us
  unfolding name_given with_aggregate run
  name_run before a us r h =
      check_run _ _ _ _ _ (eq-eqb (suc (length before)) (suc (length before)) refl)
      ∙ function_then _ a.function _
      ∙ bind (aggregate N a.function) _ _ (mark 46 ∷ us) a (aggregate_run N a (mark 46 ∷ us) r)
      ∙ bind (with_aggregate before a) _ us us (before ++ (a ∷ [])) (check_run _ _ _ _ _ (lt-ltb (length before) 64 h))

  names_run : (gs before : List Aggregate) (k n : ℕ) (us : List Token) → k ≡ length gs + n → Each (AggregateInRange N) gs → length before + length gs ≤ 64
      → run (statements k (sofar N before [])) (names_t (suc (length before)) gs ++ us) ≡ run (statements n (sofar N (before ++ gs) [])) us
  unfolding statements run
  names_run [] before k n us e r l =
      let q : k ≡ n = omega arith in
      ap (λ (x : ℕ). run (statements x (sofar N before [])) us) q ∙ ap (λ (x : List Aggregate). run (statements n (sofar N x [])) us) (sym (append-nil before))
  names_run (a ∷ gs) before zero n us e r l = absurd (omega arith)
  names_run (a ∷ gs) before (suc k) n us e r l =
      let s = snoc_long before a in
      let more = names_t (suc (suc (length before))) gs in
      ap (λ (ts : List Token). run (statements (suc k) (sofar N before [])) (mark 35 ∷ number (suc (length before)) ∷ mark 61 ∷ ts))
      (append_assoc (aggregate_t a ++ (mark 46 ∷ [])) (names_t (suc (suc (length before))) gs) us ∙ append_assoc (aggregate_t a) (mark 46 ∷ []) (names_t (suc (suc (length before))) gs ++ us))
      ∙ bind (statement (sofar N before []) (mark 35)) _ _ _ (sofar N (before ++ (a ∷ [])) []) (name_run before a (names_t (suc (suc (length before))) gs ++ us) r.0 (omega arith))
      ∙ ap (λ (x : ℕ). run (statements k (sofar N (before ++ (a ∷ [])) [])) (names_t (suc x) gs ++ us)) (sym s)
      ∙ names_run gs (before ++ (a ∷ [])) k n us (omega arith) r.1 (omega arith)
      ∙ ap (λ (x : List Aggregate). run (statements n (sofar N x [])) us) (append_assoc before (a ∷ []) gs)

-- ---- the table

each_take : {A : Type 0} (P : A → Type 0) (d : ℕ) (l : List A) → Each P l → Each P (take d l)
each_take P zero l e = tt
each_take P (suc d) [] e = tt
each_take P (suc d) (x ∷ l) e = (e.0, each_take P d l e.1)

take_all : {A : Type 0} (l : List A) → take (length l) l ≡ l
take_all [] = refl
take_all (x ∷ l) = ap (λ (m : List _). x ∷ m) (take_all l)

abbrev start : Sofar
start = record { given = none; aggregates = []; rules = [] }

abbrev atoms_letters : List ℕ
atoms_letters = 97 ∷ 116 ∷ 111 ∷ 109 ∷ 115 ∷ []

atoms_run : (N : ℕ) (us : List Token) → N ≤ 256 → run (statement start (word atoms_letters)) (number N ∷ mark 46 ∷ us) ≡ made (sofar N [] []) us
unfolding atoms_given run
atoms_run N us h = check_run _ _ _ _ _ (le-leb N 256 h)

module _ (c : Contents) (d : ℕ) (r : InRange c) (h : Does c d) where
  abbrev lines : List Token
  lines = (names_t 1 (take d c.aggregates) ++ rules_t d c.aggregates 1 c.rules) ++ (end ∷ [])

  lines_run : run (statements 1089 (sofar c.atoms [] [])) lines ≡ made (sofar c.atoms c.aggregates c.rules) []
  lines_run =
      let z = h.most in
      let t = length-take-le d c.aggregates h.most in
      let a = r.few_aggregates in
      let m = r.few_rules in
      ap (run (statements 1089 (sofar c.atoms [] []))) (append_assoc (names_t 1 (take d c.aggregates)) (rules_t d c.aggregates 1 c.rules) (end ∷ []))
      ∙ names_run c.atoms (take d c.aggregates) [] 1089 (1089 - d) (rules_t d c.aggregates 1 c.rules ++ (end ∷ [])) (omega arith) (each_take (AggregateInRange c.atoms) d c.aggregates r.aggregates) (omega arith)
      ∙ rules_run c.atoms d c.aggregates r.aggregates r.few_aggregates c.rules [] d (1089 - d) [] (omega arith) (omega arith) h.most h.turn r.rules (omega arith)
      ∙ ap (λ (x : List Aggregate). made (sofar c.atoms x c.rules) []) (take_all c.aggregates)

  pub table_run : run table (table_t d c ++ (end ∷ [])) ≡ made (sofar c.atoms c.aggregates c.rules) []
  unfolding statements run
  table_run =
      bind (statement start (word atoms_letters)) (statements 1089) (number c.atoms ∷ mark 46 ∷ lines) lines (sofar c.atoms [] []) (atoms_run c.atoms lines r.few_atoms)
      ∙ lines_run
