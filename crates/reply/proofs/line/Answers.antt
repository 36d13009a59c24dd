-- `reply::line` meets its contract: the words that were read stand at the front of the buffer, and `tell` has them; or the refusal is printed.
-- Assumes nothing.
use lib.IntN.{pos}
use lib.ListN.{take, replicate, length-replicate}
use Rattle.text.proofs.Callers.{Front, read_front, read_refused}
use Rattle.reply.proofs.Replies.{replies_good, replies_bad}
use Rattle.reply.proofs.line.Goals as goal

pub returns-in-Ok-clause-line : goal.returns-in-Ok-clause-line
returns-in-Ok-clause-line c =
    let front : Front c.args.bytes.now c.in-Ok.limit c.in-Ok.count (replicate 32768 (pos 0)) c.read.new.words =
    read_front _ (replicate 32768 (pos 0)) _ _ _ (length-replicate 32768 (pos 0)) (rw c.in-Ok.is at c.read.ensures.reading) in
    replies_good c.args.bytes.now c.args.out.now _ _ c.in-Ok.limit (take c.in-Ok.count c.read.new.words) front.said c.tell.ensures.line

pub returns-in-Err-clause-line : goal.returns-in-Err-clause-line
returns-in-Err-clause-line c =
    replies_bad c.args.bytes.now c.args.out.now _ _ c.in-Err.f (read_refused _ _ _ _ (rw c.in-Err.is at c.read.ensures.reading)).0 c.print.ensures.line
