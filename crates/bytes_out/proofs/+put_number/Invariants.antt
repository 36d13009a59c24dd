-- `bytes_out::put_number` meets its contract: the digits before the last are those of a tenth of the number, which is the measure.
-- Assumes nothing.
use Rattle.bytes_out.proofs.+put_number.Given as goal

abbrev pub decreases-put_number : goal.decreases-put_number
decreases-put_number l = l.n
