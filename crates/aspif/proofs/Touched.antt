-- The atoms that the defining rules name are those of the elements. Assumes nothing.
use mathlib.Core.Path.{◌≡◌, refl, sym, ap, ◌∙◌, subst}
use mathlib.Core.List.Memᴰ
use mathlib.Core.List.{List, [], ◌∷◌, map}
use Prim.Native.Nat.{ℕ, zero, suc}
use lib.Dec.{ltb}
use lib.IntN.{ℤ, negsuc}
use Rattle.meaning.specs.Lists.{◌∈◌, keep}
use Rattle.meaning.specs.Program.{Element, Aggregate, Literal, Rule}
use Rattle.meaning.specs.declared.Function.{Function}
use Rattle.meaning.specs.declared.Function.TheVariants.{Count, Sum, Min, Max}
use Rattle.meaning.proofs.Tools.{keep_e}
use Rattle.aspif.proofs.Renaming.{Touches, in_pos, in_neg, in_aggs}
use Rattle.aspif.specs.Statements.{Body, normal, weight, reached, body_rule}
use Rattle.aspif.specs.Writing.{bound_of, weights_of, bound_body, good, good_body, bodies_of}
use Rattle.aspif.proofs.Values.{bars, good_rule, good_pos, good_neg, def_rules}

-- ---- which atoms the defining rules name

pub body_head : (h : List ℕ) (b : Body) → (body_rule h b).head ≡ h
body_head h (normal l) = refl
body_head h (weight b es) = refl

pub weights_in_lem : (f : Function) (es : List Element) (e : Element) → e ∈ weights_of f es → (d : Element) × (d ∈ es) × (e.atom ≡ d.atom)
weights_in_lem Count es e m = let t = Memᴰ.of_map (λ (e : Element). record { value = 1; atom = e.atom }) es m in (t.0, t.1, ap (λ (x : Element). x.atom) (sym t.2))
weights_in_lem Sum es e m = (e, (keep_e (λ (e : Element). ltb 0 e.value) es m).0, refl)
weights_in_lem Min es e m = elim m [ ]
weights_in_lem Max es e m = elim m [ ]

bound_touched : (h : List ℕ) (b : ℤ) (es : List Element) (q : ℕ) → Touches q (body_rule h (bound_body b es)) → (e : Element) × (e ∈ es) × (q ≡ e.atom)
unfolding reached
bound_touched h (ℤ.pos zero) es q (in_pos m) = elim m [ ]
bound_touched h (ℤ.pos zero) es q (in_neg m) = elim m [ ]
bound_touched h (ℤ.pos zero) es q (in_aggs l lm e em w) = elim lm [ ]
bound_touched h (negsuc b) es q (in_pos m) = elim m [ ]
bound_touched h (negsuc b) es q (in_neg m) = elim m [ ]
bound_touched h (negsuc b) es q (in_aggs l lm e em w) = elim lm [ ]
bound_touched h (ℤ.pos (suc b)) es q (in_pos m) = elim m [ ]
bound_touched h (ℤ.pos (suc b)) es q (in_neg m) = elim m [ ]
bound_touched h (ℤ.pos (suc b)) es q (in_aggs l lm e em w) = (e, subst (λ (x : Literal). e ∈ x.aggregate.elements) (Memᴰ.eq_of_singleton lm) em, w)

weighed_touched : (f : Function) (a : Aggregate) (p : ℕ) (d : Rule) → d ∈ body_rule (p ∷ []) (bound_body (bound_of a.comparison a.threshold) (weights_of f a.elements)) ∷ [] → (q : ℕ) → Touches q d
    → (e : Element) × (e ∈ a.elements) × (q ≡ e.atom)
weighed_touched f a p d m q k =
    let t = bound_touched (p ∷ []) (bound_of a.comparison a.threshold) (weights_of f a.elements) q (subst (λ (x : Rule). Touches q x) (Memᴰ.eq_of_singleton m) k) in
    let u = weights_in_lem f a.elements t.0 t.1 in
    (u.0, u.1, t.2 ∙ u.2)

good_touched : (a : Aggregate) (p : ℕ) (d : Rule) → d ∈ map (body_rule (p ∷ [])) (map (good_body a) (keep (good a) a.elements)) → (q : ℕ) → Touches q d → (e : Element) × (e ∈ a.elements) × (q ≡ e.atom)
good_touched a p d m q k =
    let t = Memᴰ.of_map (body_rule (p ∷ [])) (map (good_body a) (keep (good a) a.elements)) m in
    let u = Memᴰ.of_map (good_body a) (keep (good a) a.elements) t.1 in
    at u.0 (keep_e (good a) a.elements u.1).0 (subst (λ (x : Rule). Touches q x) (sym (ap (body_rule (p ∷ [])) u.2 ∙ t.2)) k)
  where
    at : (e : Element) → e ∈ a.elements → Touches q (good_rule p a e) → (e : Element) × (e ∈ a.elements) × (q ≡ e.atom)
    at e em (in_pos k) = (e, em, Memᴰ.eq_of_singleton (subst (λ (l : List ℕ). q ∈ l) (good_pos p a e) k))
    at e em (in_neg k) =
        let t = Memᴰ.of_map (λ (d : Element). d.atom) (keep (bars a) a.elements) (subst (λ (l : List ℕ). q ∈ l) (good_neg p a e) k) in
        (t.0, (keep_e (bars a) a.elements t.1).0, sym t.2)
    at e em (in_aggs l lm _ _ _) = elim lm [ ]

pub def_touched : (a : Aggregate) (p : ℕ) (d : Rule) → d ∈ def_rules p a → (q : ℕ) → Touches q d → (e : Element) × (e ∈ a.elements) × (q ≡ e.atom)
def_touched a p d = at a.function
  where
    at : (f : Function) → d ∈ map (body_rule (p ∷ [])) (bodies_of f a) → (q : ℕ) → Touches q d → (e : Element) × (e ∈ a.elements) × (q ≡ e.atom)
    at Count = weighed_touched Count a p d
    at Sum = weighed_touched Sum a p d
    at Min = good_touched a p d
    at Max = good_touched a p d
