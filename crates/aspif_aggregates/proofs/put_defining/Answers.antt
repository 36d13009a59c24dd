-- `aspif_aggregates::put_defining` meets its contract: what was read of the aggregate gives its lines, by its function. Assumes nothing.
use mathlib.Core.Path.{◌≡◌, sym, ap, ◌∙◌}
use mathlib.Core.Bool.{true, false}
use mathlib.Core.List.{List}
use Prim.Native.Nat.{ℕ, ◌+◌}
use lib.IntN.{ℤ, pos}
use lib.ListN.{get_or}
use Rattle.meaning.specs.declared.Comparison.{Comparison}
use Rattle.meaning.specs.declared.Comparison.TheVariants.{Greater}
use Rattle.layout.specs.Layout.{nat_at, comparison_by, pairs}
use Rattle.aspif.specs.Writing.{stating}
use Rattle.aspif_parts.specs.declared.Test.{Test}
use Rattle.aspif_parts.specs.Parts.{line_text, lines_text, bound_by, test_of, bad_for_least, bad_for_most, weights_by, reached_body, element_bodies, stating_all}
use Rattle.aspif_aggregates.proofs.Defining.{pairs_from_1, defining_count, defining_sum, defining_min, defining_max}
use Rattle.aspif_aggregates.proofs.put_defining.Goals as goal

pub put_all_good-requires : goal.put_all_good-requires
put_all_good-requires c = rw c.pairs-l.ensures (pairs_from_1 256 c.args.t.now c.args.begin c.requires)

pub put_all_good-requires-in-Max : goal.put_all_good-requires-in-Max
put_all_good-requires-in-Max c = rw c.pairs-l.ensures (pairs_from_1 256 c.args.t.now c.args.begin c.requires)

pub returns-in-Count : goal.returns-in-Count
returns-in-Count c =
    let t = c.args.t.now in
    let i = c.args.begin in
    let p = c.args.p in
    let be : c.bound-b.result ≡ bound_by (comparison_by (nat_at t (i + 1))) (get_or t (i + 2) (pos 0)) = c.bound-b.ensures ∙ ap (λ (y : Comparison). bound_by y (get_or t (i + 2) (pos 0))) c.comparison-k.ensures in
    let fe = sym c.function-f.ensures ∙ c.in-Count.is in
    let e =
    ap (λ (y : Test). line_text (stating p (reached_body c.bound-b.result (weights_by y true (pairs c.pairs-l.result.now))))) c.at_least.ensures
    ∙ ap (λ (n : ℕ). line_text (stating p (reached_body n (weights_by (test_of Greater 0) true (pairs c.pairs-l.result.now))))) be
    ∙ ap (λ (m : List ℤ). line_text (stating p (reached_body (bound_by (comparison_by (nat_at t (i + 1))) (get_or t (i + 2) (pos 0))) (weights_by (test_of Greater 0) true (pairs m))))) c.pairs-l.ensures
    ∙ defining_count t i p fe in
    rw e at c.put_reached.ensures

pub returns-in-Sum : goal.returns-in-Sum
returns-in-Sum c =
    let t = c.args.t.now in
    let i = c.args.begin in
    let p = c.args.p in
    let be : c.bound-b.result ≡ bound_by (comparison_by (nat_at t (i + 1))) (get_or t (i + 2) (pos 0)) = c.bound-b.ensures ∙ ap (λ (y : Comparison). bound_by y (get_or t (i + 2) (pos 0))) c.comparison-k.ensures in
    let fe = sym c.function-f.ensures ∙ c.in-Sum.is in
    let e =
    ap (λ (y : Test). line_text (stating p (reached_body c.bound-b.result (weights_by y false (pairs c.pairs-l.result.now))))) c.at_least-in-Sum.ensures
    ∙ ap (λ (n : ℕ). line_text (stating p (reached_body n (weights_by (test_of Greater 1) false (pairs c.pairs-l.result.now))))) be
    ∙ ap (λ (m : List ℤ). line_text (stating p (reached_body (bound_by (comparison_by (nat_at t (i + 1))) (get_or t (i + 2) (pos 0))) (weights_by (test_of Greater 1) false (pairs m))))) c.pairs-l.ensures
    ∙ defining_sum t i p fe in
    rw e at c.put_reached-in-Sum.ensures

pub returns-in-Min : goal.returns-in-Min
returns-in-Min c =
    let t = c.args.t.now in
    let i = c.args.begin in
    let p = c.args.p in
    let be : c.bound-b.result ≡ bound_by (comparison_by (nat_at t (i + 1))) (get_or t (i + 2) (pos 0)) = c.bound-b.ensures ∙ ap (λ (y : Comparison). bound_by y (get_or t (i + 2) (pos 0))) c.comparison-k.ensures in
    let fe = sym c.function-f.ensures ∙ c.in-Min.is in
    let e =
    ap (λ (y : Test). lines_text (stating_all p (element_bodies (test_of c.comparison-k.result c.bound-b.result) y (pairs c.pairs-l.result.now) (pairs c.pairs-l.result.now)))) c.bad_for_least.ensures
    ∙ ap (λ (n : ℕ). lines_text (stating_all p (element_bodies (test_of c.comparison-k.result n) (bad_for_least c.comparison-k.result n) (pairs c.pairs-l.result.now) (pairs c.pairs-l.result.now)))) be
    ∙ ap (λ (y : Comparison). lines_text (stating_all p (element_bodies (test_of y (bound_by (comparison_by (nat_at t (i + 1))) (get_or t (i + 2) (pos 0)))) (bad_for_least y (bound_by (comparison_by (nat_at t (i + 1))) (get_or t (i + 2) (pos 0)))) (pairs c.pairs-l.result.now) (pairs c.pairs-l.result.now)))) c.comparison-k.ensures
    ∙ ap (λ (m : List ℤ). lines_text (stating_all p (element_bodies (test_of (comparison_by (nat_at t (i + 1))) (bound_by (comparison_by (nat_at t (i + 1))) (get_or t (i + 2) (pos 0)))) (bad_for_least (comparison_by (nat_at t (i + 1))) (bound_by (comparison_by (nat_at t (i + 1))) (get_or t (i + 2) (pos 0)))) (pairs m) (pairs m)))) c.pairs-l.ensures
    ∙ defining_min t i p fe in
    rw e at c.put_all_good.ensures

pub returns-in-Max : goal.returns-in-Max
returns-in-Max c =
    let t = c.args.t.now in
    let i = c.args.begin in
    let p = c.args.p in
    let be : c.bound-b.result ≡ bound_by (comparison_by (nat_at t (i + 1))) (get_or t (i + 2) (pos 0)) = c.bound-b.ensures ∙ ap (λ (y : Comparison). bound_by y (get_or t (i + 2) (pos 0))) c.comparison-k.ensures in
    let fe = sym c.function-f.ensures ∙ c.in-Max.is in
    let e =
    ap (λ (y : Test). lines_text (stating_all p (element_bodies (test_of c.comparison-k.result c.bound-b.result) y (pairs c.pairs-l.result.now) (pairs c.pairs-l.result.now)))) c.bad_for_most.ensures
    ∙ ap (λ (n : ℕ). lines_text (stating_all p (element_bodies (test_of c.comparison-k.result n) (bad_for_most c.comparison-k.result n) (pairs c.pairs-l.result.now) (pairs c.pairs-l.result.now)))) be
    ∙ ap (λ (y : Comparison). lines_text (stating_all p (element_bodies (test_of y (bound_by (comparison_by (nat_at t (i + 1))) (get_or t (i + 2) (pos 0)))) (bad_for_most y (bound_by (comparison_by (nat_at t (i + 1))) (get_or t (i + 2) (pos 0)))) (pairs c.pairs-l.result.now) (pairs c.pairs-l.result.now)))) c.comparison-k.ensures
    ∙ ap (λ (m : List ℤ). lines_text (stating_all p (element_bodies (test_of (comparison_by (nat_at t (i + 1))) (bound_by (comparison_by (nat_at t (i + 1))) (get_or t (i + 2) (pos 0)))) (bad_for_most (comparison_by (nat_at t (i + 1))) (bound_by (comparison_by (nat_at t (i + 1))) (get_or t (i + 2) (pos 0)))) (pairs m) (pairs m)))) c.pairs-l.ensures
    ∙ defining_max t i p fe in
    rw e at c.put_all_good-in-Max.ensures
