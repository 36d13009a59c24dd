-- Which number comes next, as the code has it: a point of the grammar, and where a number leads. Definitions only; `proofs/Leading.antt` ties them to the grammar.
--   asked_at top p     what is asked of the number at the point p, in a table of `top` atoms
--   point_after p n    the point after a number of size n
--   Leads top p F Q   the format F asks for the numbers that the points from p on ask for; where it is done, Q holds of what was made and of the point
--   Fits a            what is asked fits its bytes
-- Assumes nothing.
use Rattle.std.specs.Prelude.{◌≡◌, Bool, true, false, not, List, ◌++◌, ℕ, zero, suc, ◌≤◌, ◌<◌, ℤ, pos, negsuc, neg_ℤ, nat_abs, length, drop, Option, Some, None, Result, Ok, Err}
use Rattle.std.proofs.Math.Option.{none}
use Rattle.std.specs.Int.Signed.{non_neg}
use Rattle.results.specs.declared.Refusal.{Refusal}
use Rattle.results.specs.declared.Refusal.TheVariants.{ShortBuffer}
use Rattle.table.specs.Roles.{Role, count, quantity, member, fault, Format, done, word}
use Rattle.table.specs.Contents.{Contents}
use Rattle.table.specs.Grammar.{accepted, contents_of}
use Rattle.bytes_out.specs.Putting.{Put}
use Rattle.stored.specs.Bytes.{two, four, complement, twice, Step, stop, go}
use Rattle.stored.specs.Promises.{plainly}
use Rattle.stored.specs.declared.points.Point.{Point}
use Rattle.stored.specs.declared.points.Point.TheVariants as point
use Rattle.stored.specs.declared.points.Asked.{Asked}
use Rattle.stored.specs.declared.points.Asked.TheVariants as asked

-- ---- points

-- g aggregates in all, k to come
abbrev pub aggregate_next : ℕ → ℕ → Point
aggregate_next g zero = point.Rules g
aggregate_next g (suc k) = point.Function g k

-- n elements to come, after atom p
abbrev pub element_next : ℕ → ℕ → ℕ → ℕ → Point
element_next g k p zero = aggregate_next g k
element_next g k p (suc n) = point.Value g k n p

-- k rules to come
abbrev pub rule_next : ℕ → ℕ → Point
rule_next g zero = point.End
rule_next g (suc k) = point.Count g k 3

-- l lists of the rule to come
abbrev pub list_next : ℕ → ℕ → ℕ → Point
list_next g k zero = rule_next g k
list_next g k (suc l) = point.Count g k l

-- n members to come, after number p
abbrev pub member_next : ℕ → ℕ → ℕ → ℕ → ℕ → Point
member_next g k l p zero = list_next g k l
member_next g k l p (suc n) = point.Member g k l n p

abbrev pub point_after : Point → ℕ → Point
point_after point.Aggregates n = aggregate_next n n
point_after (point.Function g k) n = point.Comparison g k
point_after (point.Comparison g k) n = point.Threshold g k
point_after (point.Threshold g k) n = point.Elements g k
point_after (point.Elements g k) n = element_next g k 0 n
point_after (point.Value g k m p) n = point.Atom g k m p
point_after (point.Atom g k m p) n = element_next g k n m
point_after (point.Rules g) n = rule_next g n
point_after (point.Count g k l) n = member_next g k l 0 n
point_after (point.Member g k l m p) n = member_next g k l n m
point_after point.End n = point.End

-- the lists of a rule, by how many follow: the head, the positive atoms, the negated atoms, the aggregate literals
abbrev pub most_by : ℕ → ℕ
most_by zero = 8
most_by (suc zero) = 64
most_by (suc (suc zero)) = 64
most_by (suc (suc (suc l))) = 16

abbrev pub member_by : ℕ → ℕ → ℕ → ℕ → Option Asked
member_by top g p zero = Some (asked.Literal g p)
member_by top g p (suc l) = Some (asked.Member top p)

abbrev pub asked_at : ℕ → Point → Option Asked
asked_at top point.Aggregates = Some (asked.Count 64)
asked_at top (point.Function g k) = Some (asked.Quantity 3)
asked_at top (point.Comparison g k) = Some (asked.Quantity 1)
asked_at top (point.Threshold g k) = Some asked.Threshold
asked_at top (point.Elements g k) = Some (asked.Count 64)
asked_at top (point.Value g k n p) = Some (asked.Quantity 65535)
asked_at top (point.Atom g k n p) = Some (asked.Member top p)
asked_at top (point.Rules g) = Some (asked.Count 1024)
asked_at top (point.Count g k l) = Some (asked.Count (most_by l))
asked_at top (point.Member g k l n p) = member_by top g p l
asked_at top point.End = None

-- the role; where nothing is asked no number is read
abbrev pub role_of : Option Asked → Role
role_of (Some (asked.Count m)) = count m
role_of (Some (asked.Quantity h)) = quantity (pos 0) (pos h)
role_of (Some asked.Threshold) = quantity (negsuc 0) (pos 4194304)
role_of (Some (asked.Member top p)) = member false top p
role_of (Some (asked.Literal top p)) = member true top p
role_of None = count 0

abbrev pub Fits : Option Asked → Type 0
Fits (Some (asked.Count m)) = m ≤ 65535
Fits (Some (asked.Quantity h)) = h ≤ 65535
Fits (Some asked.Threshold) = Unit {0}
Fits (Some (asked.Member top p)) = top ≤ 65535
Fits (Some (asked.Literal top p)) = top ≤ 32767
Fits None = ⊥

abbrev pub Leads : {A : Type 0} → ℕ → Point → Format A → (A → Point → Type 0) → Type 0
Leads top p (done x) Q = Q x p
Leads top p (word role next) Q =
    Fits (asked_at top p) × (role_of (asked_at top p) ≡ role) × ((w : ℤ) → ((i : ℕ) → fault role i w ≡ none) → Leads top (point_after p (nat_abs w)) (next w) Q)

-- ---- what the functions return

-- a number's size and sign, and the next place; or the refusal
abbrev pub Got : Type 0
Got = Result (ℕ × Bool × ℕ) Refusal

abbrev pub got_of : Step → Got
got_of (stop r) = Err r
got_of (go w j bs) = Ok (nat_abs w, not (non_neg w), j)

abbrev pub signed : Bool → ℕ → ℤ
signed true n = neg_ℤ (pos n)
signed false n = pos n

-- the bytes of a number by what is asked
abbrev pub bytes_by : Option Asked → Bool → ℕ → List ℕ
bytes_by (Some (asked.Count m)) b n = two n
bytes_by (Some (asked.Quantity h)) b n = two n
bytes_by (Some asked.Threshold) b n = four (complement (signed b n))
bytes_by (Some (asked.Member top p)) b n = two n
bytes_by (Some (asked.Literal top p)) b n = two (twice (signed b n))
bytes_by None b n = two n

-- ---- accepted words

abbrev pub Held : List ℤ → Type 0
Held t = (c : Contents) × (contents_of t ≡ accepted c)

abbrev pub HeldOf : List ℤ → ℕ → Type 0
HeldOf t top = (c : Contents) × (contents_of t ≡ accepted c) × (top ≡ c.atoms)

-- the stored form of what they hold
abbrev pub PutTable : List ℤ → List ℕ → ℕ → List ℕ → Type 0
PutTable t old to new = (c : Contents) → contents_of t ≡ accepted c → Put old 0 (plainly c) to new

-- writing them into a buffer
pub record Laying (bytes old new : List ℕ) (r : Result ℕ Refusal) : Type 0 where
  pub fits : length bytes ≤ length old → (r ≡ Ok (length bytes)) × (new ≡ bytes ++ drop (length bytes) old)
  pub short : length old < length bytes → (r ≡ Err ShortBuffer) × (new ≡ old)

abbrev pub Storing : List ℤ → List ℕ → List ℕ → Result ℕ Refusal → Type 0
Storing t old new r = (c : Contents) → contents_of t ≡ accepted c → Laying (plainly c) old new r
