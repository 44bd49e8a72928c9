use Rattle.link_run.proofs.BlockOrders.{blocks-go-on}
use Rattle.link_run.proofs.sending.Sending.tick.Goals as goal

pub returns-in-Blocks-clause-goes_on : goal.returns-in-Blocks-clause-goes_on
returns-in-Blocks-clause-goes_on c = rw c.in-Blocks.is (λ p observed same was.
    blocks-go-on c.in-Blocks.last _ p observed _ _ was
    (c.next_block-place.ensures.goes_on p observed same))
