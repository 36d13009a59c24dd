-- `bytes_out::put_number` meets its contract: the digits before the last are those of a tenth of the number, which is the measure.
-- Assumes nothing.
use Rattle.text.proofs.Decimal.{decimal_low, decimal_high}
use Rattle.bytes_out.proofs.Laws.{put_then}
use Rattle.bytes_out.proofs.+put_number.Goals as goal

pub returns-then-n-lt10 : goal.returns-then-n-lt10
returns-then-n-lt10 t c = rw (decimal_low _ c.if-n-lt10.true, ← c.last_digit.ensures) c.put_byte.ensures

pub returns : goal.returns
returns t c =
    rw (decimal_high _ c.if-n-lt10.false, ← c.last_digit-2.ensures)
    (put_then c.put_number-to.ensures c.put_byte-2.ensures)
