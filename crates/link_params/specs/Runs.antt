-- The ticks of a run, one after another: a transmitter lane goes on with data, and a receiver lane
-- takes words while no hunt begins.
-- Code: a loop over the ticks.
use Rattle.std.specs.Prelude.{ℕ, zero, suc, ◌+◌, ◌%◌, false, if◌then◌else◌, List, [], ◌∷◌, ◌++◌, get_or}
use Rattle.jesd_base.specs.Bits.{bits}
use Rattle.link_params.specs.declared.fields.Params.{Params}
use Rattle.link_params.specs.declared.orders.RxOrder.{RxOrder}
use Rattle.link_params.specs.declared.orders.TxOrder.{TxOrder}
use Rattle.link_params.specs.declared.orders.TxOrder.TheVariants.{Data, Block}
use Rattle.link_params.specs.Laws.{is_b}
use Rattle.link_params.specs.Numbers.{period}
use Rattle.link_params.specs.Lanes.{Handed, Taken}

-- the order of data at this place, where it is not the first data
abbrev pub data_order : Params → ℕ → TxOrder
data_order p x = if is_b p.mode then Data x false else Block x false

-- the first n ticks of data from a place on: each is at the next place of the period, and is handed
-- the next octets
unfoldable pub data_ticks : Params → ℕ → List ℕ → ℕ → List Handed
data_ticks p place octets zero = []
data_ticks p place octets (suc n) = data_ticks p place octets n ++ (record {
  order = data_order p ((place + n) % period p);
  octets = get_or octets n 0;
}) ∷ []

-- the order n ticks after this one: no hunt begins, and the offset goes round in a period
abbrev pub later : RxOrder → ℕ → ℕ → RxOrder
later order period n =
    record { hunt = false; armed = order.armed; offset = (order.offset + n) % period }

-- the first n ticks from this order on, each with the next of these words of so many bits
unfoldable pub word_ticks : ℕ → RxOrder → ℕ → List ℕ → ℕ → List Taken
word_ticks width order period words zero = []
word_ticks width order period words (suc n) = word_ticks width order period words n ++ (record {
  order = later order period n;
  word = bits width (get_or words n 0);
}) ∷ []
