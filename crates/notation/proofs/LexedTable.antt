-- The tokens of a table's text, part by part. Assumes nothing.
use mathlib.Core.Path.{◌≡◌, refl, sym, ap, ◌∙◌, subst}
use mathlib.Core.Bool.{Bool, true, false, cond, not}
use mathlib.Core.List.{List, [], ◌∷◌, ◌++◌, map, append_assoc, append-nil}
use Prim.Native.Nat.{ℕ, suc}
use lib.Dec.{leb}
use lib.IntN.{ℤ, negsuc, nat_abs}
use lib.ListN.{take}
use lib.Signed.{non_neg}
use Rattle.meaning.specs.Program.{Element, Aggregate}
use Rattle.meaning.specs.declared.Function.{Function}
use Rattle.meaning.specs.declared.Function.TheVariants.{Count, Sum, Min, Max}
use Rattle.meaning.specs.declared.Comparison.{Comparison}
use Rattle.meaning.specs.declared.Comparison.TheVariants.{Less, Greater}
use Rattle.table.specs.Contents.{NumberedRule, Contents, aggregate_by}
use Rattle.text.specs.Line.{decimal}
use Rattle.notation.specs.Notation.{some, before, joined_from, joined, comma, bar, not_word, function_text, comparison_text, element_text, threshold_text, aggregate_text, atom_text, name_text, literal_text, body_parts, stop, rule_text, atoms_line, name_line, names_text, rule_line, rules_text, text_by}
use Rattle.notation.specs.Notation as notation
use Rattle.notation.specs.Tokens.{Token, number, word, mark, end, fresh, alone, tokens_from, tokens}
use Rattle.notation.proofs.TokenLists.{joined_t, function_word, comparison_mark, element_t, threshold_t, aggregate_t, not_t, name_t, literal_t, atom_t, body_t, neck_t, rule_t, atoms_t, name_line_t, names_t, rule_line_t, rules_t, table_t}
use Rattle.notation.proofs.Lexed.{Stops, lex_number, lex_colon, no_minus, Lexes, Closed, both, lexed_number, AllLex, map_lex, append_lex, some_lex, joined_lex}

-- ---- fixed parts

comma_closed : Closed comma (mark 44 ∷ [])
unfolding tokens_from fresh alone
comma_closed rest = refl

bar_closed : Closed bar (mark 124 ∷ [])
unfolding tokens_from fresh alone
bar_closed rest = refl

stop_closed : Closed stop (mark 46 ∷ [])
unfolding tokens_from fresh alone
stop_closed rest = refl

not_closed : (b : Bool) → Closed (before not_word b) (not_t b)
unfolding tokens_from fresh alone
not_closed true rest = refl
not_closed false rest = refl

function_closed : (f : Function) → Closed (function_text f) (word (function_word f) ∷ mark 123 ∷ [])
unfolding tokens_from fresh alone
function_closed Count rest = refl
function_closed Sum rest = refl
function_closed Min rest = refl
function_closed Max rest = refl

comparison_closed : (k : Comparison) → Closed (comparison_text k) (mark 125 ∷ mark (comparison_mark k) ∷ [])
unfolding tokens_from fresh alone
comparison_closed Less rest = refl
comparison_closed Greater rest = refl

comparison_stops : (k : Comparison) (rest : List ℕ) → Stops (comparison_text k ++ rest)
comparison_stops Less rest = refl
comparison_stops Greater rest = refl

-- a byte that is a token by itself, and then what follows
minus_closed : Closed (45 ∷ []) (mark 45 ∷ [])
unfolding tokens_from fresh alone
minus_closed rest = refl

sign_closed : Closed (35 ∷ []) (mark 35 ∷ [])
unfolding tokens_from fresh alone
sign_closed rest = refl

-- ---- an aggregate

element_lexes : (e : Element) → Lexes (element_text e) (element_t e)
element_lexes e rest s =
    both (decimal e.value) (58 ∷ decimal e.atom) (number e.value ∷ []) (mark 58 ∷ number e.atom ∷ []) rest
    (lex_number e.value (58 ∷ (decimal e.atom ++ rest)) refl)
    (lex_colon (decimal e.atom ++ rest) (no_minus e.atom rest) ∙ ap (λ (ts : List Token). mark 58 ∷ ts) (lex_number e.atom rest s))

threshold_lexes : (z : ℤ) → Lexes (threshold_text z) (threshold_t z)
threshold_lexes (ℤ.pos n) rest s = lex_number n rest s
threshold_lexes (negsuc n) rest s = both (45 ∷ []) (decimal (suc n)) (mark 45 ∷ []) (number (suc n) ∷ []) rest (minus_closed (decimal (suc n) ++ rest)) (lex_number (suc n) rest s)

aggregate_lexes : (a : Aggregate) → Lexes (aggregate_text a) (aggregate_t a)
unfolding aggregate_text
aggregate_lexes a rest s =
    let f = function_text a.function in
    let j = joined comma (map element_text a.elements) in
    let k = comparison_text a.comparison in
    let z = threshold_text a.threshold in
    both f (j ++ (k ++ z)) (word (function_word a.function) ∷ mark 123 ∷ []) (joined_t 44 false (map element_t a.elements) ++ (mark 125 ∷ mark (comparison_mark a.comparison) ∷ threshold_t a.threshold)) rest
    (function_closed a.function ((j ++ (k ++ z)) ++ rest))
    (both j (k ++ z) (joined_t 44 false (map element_t a.elements)) (mark 125 ∷ mark (comparison_mark a.comparison) ∷ threshold_t a.threshold) rest
    (joined_lex comma 44 comma_closed (λ r. refl) false (map element_text a.elements) (map element_t a.elements) (map_lex element_text element_t element_lexes a.elements) ((k ++ z) ++ rest)
    (subst Stops (sym (append_assoc k z rest)) (comparison_stops a.comparison (z ++ rest))))
    (both k z (mark 125 ∷ mark (comparison_mark a.comparison) ∷ []) (threshold_t a.threshold) rest (comparison_closed a.comparison (z ++ rest)) (threshold_lexes a.threshold rest s)))

-- ---- a rule

name_lexes : (j : ℕ) → Lexes (name_text j) (name_t j)
name_lexes j rest s = both (35 ∷ []) (decimal j) (mark 35 ∷ []) (number j ∷ []) rest (sign_closed (decimal j ++ rest)) (lex_number j rest s)

cond_lexes : (b : Bool) (x u : List ℕ) (y v : List Token) → Lexes x y → Lexes u v → Lexes (cond b x u) (cond b y v)
cond_lexes true x u y v f g = f
cond_lexes false x u y v f g = g

literal_lexes : (d : ℕ) (gs : List Aggregate) (w : ℤ) → Lexes (literal_text d gs w) (literal_t d gs w)
unfolding literal_text
literal_lexes d gs w rest s =
    let j = nat_abs w in
    let a = aggregate_by gs (nat_abs w) in
    both (before not_word (not (non_neg w))) (cond (leb j d) (name_text j) (aggregate_text a)) (not_t (not (non_neg w))) (cond (leb j d) (name_t j) (aggregate_t a)) rest
    (not_closed (not (non_neg w)) (cond (leb j d) (name_text j) (aggregate_text a) ++ rest))
    (cond_lexes (leb j d) (name_text j) (aggregate_text a) (name_t j) (aggregate_t a) (name_lexes j) (aggregate_lexes a) rest s)

barred_lexes : (p : ℕ) → Lexes (atom_text not_word p) (atom_t true p)
barred_lexes p rest s = both not_word (decimal p) (word (110 ∷ 111 ∷ 116 ∷ []) ∷ []) (number p ∷ []) rest (not_closed true (decimal p ++ rest)) (lex_number p rest s)

body_lexes : (d : ℕ) (gs : List Aggregate) (ps ns : List ℕ) (ws : List ℤ) → AllLex (body_parts d gs ps ns ws) (body_t d gs ps ns ws)
body_lexes d gs ps ns ws =
    append_lex (map (atom_text []) ps) _ (map (atom_t false) ps) _ (map_lex (atom_text []) (atom_t false) lexed_number ps)
    (append_lex (map (atom_text not_word) ns) _ (map (atom_t true) ns) _ (map_lex (atom_text not_word) (atom_t true) barred_lexes ns) (map_lex (literal_text d gs) (literal_t d gs) (literal_lexes d gs) ws))

neck_closed : (h b : Bool) → Closed (notation.neck h b) (neck_t h b)
unfolding tokens_from fresh alone
neck_closed true false rest = refl
neck_closed true true rest = refl
neck_closed false b rest = refl

after_stops : (h : Bool) (xs : List (List ℕ)) (rest : List ℕ) → Stops ((notation.neck h (some xs) ++ (joined comma xs ++ stop)) ++ rest)
after_stops true [] rest = refl
after_stops true (x ∷ xs) rest = refl
after_stops false xs rest = refl

parts_closed : (hs : List ℕ) (xs : List (List ℕ)) (ys : List (List Token)) → AllLex xs ys
    → Closed (joined bar (map (atom_text []) hs) ++ (notation.neck (some hs) (some xs) ++ (joined comma xs ++ stop))) (joined_t 124 false (map (atom_t false) hs) ++ (neck_t (some hs) (some ys) ++ (joined_t 44 false ys ++ (mark 46 ∷ []))))
parts_closed hs xs ys a rest =
    let h = joined bar (map (atom_text []) hs) in
    let n = notation.neck (some hs) (some xs) in
    let j = joined comma xs in
    both h (n ++ (j ++ stop)) (joined_t 124 false (map (atom_t false) hs)) (neck_t (some hs) (some ys) ++ (joined_t 44 false ys ++ (mark 46 ∷ []))) rest
    (joined_lex bar 124 bar_closed (λ r. refl) false (map (atom_text []) hs) (map (atom_t false) hs) (map_lex (atom_text []) (atom_t false) lexed_number hs) ((n ++ (j ++ stop)) ++ rest) (after_stops (some hs) xs rest))
    (both n (j ++ stop) (neck_t (some hs) (some ys)) (joined_t 44 false ys ++ (mark 46 ∷ [])) rest
    (neck_closed (some hs) (some xs) ((j ++ stop) ++ rest) ∙ ap (λ (b : Bool). neck_t (some hs) b ++ tokens ((j ++ stop) ++ rest)) (some_lex xs ys a))
    (both j stop (joined_t 44 false ys) (mark 46 ∷ []) rest (joined_lex comma 44 comma_closed (λ r. refl) false xs ys a (stop ++ rest) refl) (stop_closed rest)))

rule_closed : (d : ℕ) (gs : List Aggregate) (r : NumberedRule) → Closed (rule_text d gs r) (rule_t d gs r)
unfolding rule_text
rule_closed d gs r = parts_closed r.head (body_parts d gs r.pos r.neg r.aggs) (body_t d gs r.pos r.neg r.aggs) (body_lexes d gs r.pos r.neg r.aggs)

-- ---- lines

colon_closed : Closed (58 ∷ 32 ∷ []) (mark 58 ∷ [])
unfolding tokens_from fresh alone
colon_closed rest = refl

equals_closed : Closed (32 ∷ 61 ∷ 32 ∷ []) (mark 61 ∷ [])
unfolding tokens_from fresh alone
equals_closed rest = refl

line_closed : (d : ℕ) (gs : List Aggregate) (i : ℕ) (r : NumberedRule) → Closed (rule_line d gs i r) (rule_line_t d gs i r)
line_closed d gs i r rest =
    both (decimal i) ((58 ∷ 32 ∷ []) ++ rule_text d gs r) (number i ∷ []) (mark 58 ∷ rule_t d gs r) rest (lex_number i (58 ∷ 32 ∷ (rule_text d gs r ++ rest)) refl)
    (both (58 ∷ 32 ∷ []) (rule_text d gs r) (mark 58 ∷ []) (rule_t d gs r) rest (colon_closed (rule_text d gs r ++ rest)) (rule_closed d gs r rest))

rules_closed : (d : ℕ) (gs : List Aggregate) (i : ℕ) (rs : List NumberedRule) → Closed (rules_text d gs i rs) (rules_t d gs i rs)
unfolding rules_text
rules_closed d gs i [] rest = refl
rules_closed d gs i (r ∷ rs) rest =
    both (rule_line d gs i r) (rules_text d gs (suc i) rs) (rule_line_t d gs i r) (rules_t d gs (suc i) rs) rest (line_closed d gs i r (rules_text d gs (suc i) rs ++ rest)) (rules_closed d gs (suc i) rs rest)

name_closed : (j : ℕ) (a : Aggregate) → Closed (name_line j a) (name_line_t j a)
name_closed j a rest =
    let x = aggregate_text a in
    both (name_text j) ((32 ∷ 61 ∷ 32 ∷ []) ++ (x ++ stop)) (mark 35 ∷ number j ∷ []) (mark 61 ∷ (aggregate_t a ++ (mark 46 ∷ []))) rest (name_lexes j (32 ∷ 61 ∷ 32 ∷ ((x ++ stop) ++ rest)) refl)
    (both (32 ∷ 61 ∷ 32 ∷ []) (x ++ stop) (mark 61 ∷ []) (aggregate_t a ++ (mark 46 ∷ [])) rest (equals_closed ((x ++ stop) ++ rest))
    (both x stop (aggregate_t a) (mark 46 ∷ []) rest (aggregate_lexes a (stop ++ rest) refl) (stop_closed rest)))

names_closed : (j : ℕ) (gs : List Aggregate) → Closed (names_text j gs) (names_t j gs)
unfolding names_text
names_closed j [] rest = refl
names_closed j (a ∷ gs) rest = both (name_line j a) (names_text (suc j) gs) (name_line_t j a) (names_t (suc j) gs) rest (name_closed j a (names_text (suc j) gs ++ rest)) (names_closed (suc j) gs rest)

atoms_word : Closed (97 ∷ 116 ∷ 111 ∷ 109 ∷ 115 ∷ 32 ∷ []) (word (97 ∷ 116 ∷ 111 ∷ 109 ∷ 115 ∷ []) ∷ [])
unfolding tokens_from fresh alone
atoms_word rest = refl

atoms_closed : (n : ℕ) → Closed (atoms_line n) (atoms_t n)
atoms_closed n rest =
    both (97 ∷ 116 ∷ 111 ∷ 109 ∷ 115 ∷ 32 ∷ []) (decimal n ++ stop) (word (97 ∷ 116 ∷ 111 ∷ 109 ∷ 115 ∷ []) ∷ []) (number n ∷ mark 46 ∷ []) rest (atoms_word ((decimal n ++ stop) ++ rest))
    (both (decimal n) stop (number n ∷ []) (mark 46 ∷ []) rest (lex_number n (stop ++ rest) refl) (stop_closed rest))

-- ---- the table

pub text_tokens : (d : ℕ) (c : Contents) → tokens (text_by d c) ≡ table_t d c ++ (end ∷ [])
unfolding text_by tokens_from
text_tokens d c =
    let names = names_text 1 (take d c.aggregates) in
    let rules = rules_text d c.aggregates 1 c.rules in
    ap tokens (sym (append-nil (atoms_line c.atoms ++ (names ++ rules))))
    ∙ both (atoms_line c.atoms) (names ++ rules) (atoms_t c.atoms) (names_t 1 (take d c.aggregates) ++ rules_t d c.aggregates 1 c.rules) [] (atoms_closed c.atoms ((names ++ rules) ++ []))
    (both names rules (names_t 1 (take d c.aggregates)) (rules_t d c.aggregates 1 c.rules) [] (names_closed 1 (take d c.aggregates) (rules ++ [])) (rules_closed d c.aggregates 1 c.rules []))
