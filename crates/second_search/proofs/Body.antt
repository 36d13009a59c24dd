-- Where all atoms are defined, a rule's body is true in the set of the true atoms exactly if its lists of literals ask for a conflict.
-- Assumes nothing.
use Prim.Native.Nat.{ℕ}
use mathlib.Core.Path.{◌≡◌, refl, sym, ap, ap₂, ◌∙◌}
use mathlib.Core.Bool.{Bool, true, false, not, ◌&&◌}
use mathlib.Core.List.Memᴰ
use mathlib.Core.List.{List, [], ◌∷◌, ◌++◌, map}
use Rattle.meaning.specs.Lists.{all}
use Rattle.meaning.specs.Aggregates.{Atoms}
use Rattle.meaning.specs.Program.{Literal, Rule, RuleIn}
use Rattle.meaning.specs.Answers.{literal, body}
use Rattle.interpretation.specs.State.{Cell, AllDefined, true_atoms}
use Rattle.valuing.specs.Values.{Lit, atom_lit, agg_lit, true_in}
use Rattle.rules.specs.Demand.{together, asks, is_conflict}
use Rattle.foundation.specs.Walk.{rest_true}
use Rattle.foundation.proofs.Decided.{ask_bool, asks_decided, ask_conflict, decides_body}

positive_all : (Y : Atoms) (ps : List ℕ) → all (true_in Y) (map (atom_lit true) ps) ≡ all Y ps
positive_all Y [] = refl
positive_all Y (p ∷ ps) = ap (λ (b : Bool). Y p && b) (positive_all Y ps)

negated_all : (Y : Atoms) (ps : List ℕ) → all (true_in Y) (map (atom_lit false) ps) ≡ all (λ p. not (Y p)) ps
negated_all Y [] = refl
negated_all Y (p ∷ ps) = ap (λ (b : Bool). not (Y p) && b) (negated_all Y ps)

literals_all : (Y : Atoms) (ls : List Literal) → all (true_in Y) (map agg_lit ls) ≡ all (literal Y) ls
literals_all Y [] = refl
literals_all Y (l ∷ ls) = ap (λ (b : Bool). literal Y l && b) (literals_all Y ls)

together_asked : (b c : Bool) → is_conflict (together (ask_bool b) (ask_bool c)) ≡ (b && c)
together_asked true c = ask_conflict c
together_asked false c = refl

module _ (n : ℕ) (a : ℕ → Cell) (D : AllDefined n a) (r : Rule) (I : RuleIn n r) where
  abbrev X : Atoms
  X = true_atoms n a

  abbrev later : List Lit
  later = map (atom_lit false) r.neg ++ map agg_lit r.aggs

  pub positive_true : is_conflict (asks a (map (atom_lit true) r.pos)) ≡ all X r.pos
  positive_true =
      ap is_conflict (asks_decided a X (map (atom_lit true) r.pos) (λ x m. decides_body n a D r I x (Memᴰ.append_left _ m)))
      ∙ ask_conflict (all (true_in X) (map (atom_lit true) r.pos)) ∙ positive_all X r.pos

  rest_is : rest_true a r ≡ (all (λ p. not (X p)) r.neg && all (literal X) r.aggs)
  unfolding rest_true
  rest_is =
      ap is_conflict (ap₂ together
      (asks_decided a X (map (atom_lit false) r.neg) (λ x m. decides_body n a D r I x (Memᴰ.append_right (map (atom_lit true) r.pos) (Memᴰ.append_left _ m))))
      (asks_decided a X (map agg_lit r.aggs) (λ x m. decides_body n a D r I x (Memᴰ.append_right (map (atom_lit true) r.pos) (Memᴰ.append_right (map (atom_lit false) r.neg) m)))))
      ∙ together_asked (all (true_in X) (map (atom_lit false) r.neg)) (all (true_in X) (map agg_lit r.aggs)) ∙ ap₂ ◌&&◌ (negated_all X r.neg) (literals_all X r.aggs)

  -- the code's two questions
  pub body_rest : is_conflict (asks a (map (atom_lit true) r.pos)) ≡ true → rest_true a r ≡ body X r
  unfolding body
  body_rest e = rest_is ∙ sym (ap (λ (b : Bool). (b && all (λ p. not (X p)) r.neg) && all (literal X) r.aggs) (sym positive_true ∙ e))

  pub body_not : is_conflict (asks a (map (atom_lit true) r.pos)) ≡ false → body X r ≡ false
  unfolding body
  body_not e = ap (λ (b : Bool). (b && all (λ p. not (X p)) r.neg) && all (literal X) r.aggs) (sym positive_true ∙ e)
