use Rattle.std.proofs.Common.{refl}
use Rattle.lane_b.specs.kept.Senders.{rd_after}
use Rattle.lane_b.specs.Sent.{sent_words, chars_after, spelled}
use Rattle.lane_b.proofs.sender.TxLaneB.new.Goals as goal

pub returns-clause-sent : goal.returns-clause-sent
unfolding rd_after sent_words chars_after spelled
returns-clause-sent c = record { params = refl; of_lane = refl; rd = refl; data_goes_on = tt }
