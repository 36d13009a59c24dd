-- The result that stands for what the listing of an accepted table reports. Definitions only.
-- Assumes nothing.
use Rattle.std.specs.Prelude.{ℕ}
use Rattle.results.specs.declared.Counts.{Counts}
use Rattle.results.specs.declared.Listed.{Listed}
use Rattle.results.specs.declared.Listed.TheVariants as listed
use Rattle.listing.specs.declared.Kind.{Kind}
use Rattle.listing.specs.declared.Kind.TheVariants.{Complete, Full, Limit}
use Rattle.listing.specs.declared.Told.{Told}

abbrev pub result_by : Kind → ℕ → Counts → Listed
result_by Complete m k = listed.Complete m k
result_by Full m k = listed.Full m k
result_by Limit m k = listed.Limit m k

abbrev pub result_of : Told → Listed
result_of t = result_by t.kind t.number (record { choices = t.choices; skips = t.skips; passes = t.passes })
