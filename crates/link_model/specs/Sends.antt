-- What the transmitter sees of SYNC~, orders, is handed and sends (JESD204B.01 clause 5.3.3, link
-- operation, and clause 5.1, transport layer; JESD204C.1, 64b/66b link layer).
-- Code: the transmitter keeps a row of levels, where it stands, and one frame.
use Rattle.std.specs.Prelude.{ℕ, ◌+◌, ◌-◌, ◌*◌, ◌%◌, ◌==◌, Bool, true, List, [], ◌∷◌, ◌++◌, map, filter, length, take, drop, get_or, slice_index, replicate, fold, Option, Some, None}
use Rattle.std.specs.List.{flat_map}
use Rattle.link_params.specs.declared.fields.Params.{Params}
use Rattle.link_params.specs.declared.alarms.Device.TheVariants.{Tx}
use Rattle.link_params.specs.declared.orders.TxOrder.{TxOrder}
use Rattle.link_params.specs.declared.orders.TxOrder.TheVariants.{Comma, Ilas, Data, Silent, Block}
use Rattle.link_params.specs.Lanes.{Handed, LaneKind}
use Rattle.link_params.specs.Numbers.{octets_per_tick}
use Rattle.sample_map.specs.Frames.{frame_of}
use Rattle.bring_up.specs.Decisions.{is_hunting}
use Rattle.scenario.specs.Plans.{Plan, numbers_from, source_frame}
use Rattle.link_model.specs.Edges.{last_reset, phase}
use Rattle.link_model.specs.Moments.{History}
use Rattle.link_model.specs.Orders.{Observed, tx_order}

-- ---- what is sent

-- what the transmitter sees of SYNC~ in each tick up to the one that comes: true where it is low.
-- It sees the level after the tick that is sync_delay + 1 ticks earlier; before the run SYNC~ is
-- low.
unfoldable pub seen_low : Plan → History → List Bool
seen_low s h = take (length h + 1) (replicate (s.link.timing.sync_delay + 1) true
    ++ map (λ m. is_hunting m.stage) h)

abbrev pub observed_at : Plan → History → ℕ → Observed
observed_at s h x = record { phase = phase s Tx x; low = get_or (seen_low s h) x true }

-- the transmitter's ticks since its reset, the one that comes at the end
unfoldable pub observed : Plan → History → List Observed
observed s h = let t = length h in
    let r = last_reset s Tx t in map (observed_at s h) (numbers_from r (t + 1 - r))

unfoldable pub order_of : Plan → History → TxOrder
order_of s h = tx_order s.link.params (observed s h)

-- the place of a tick in the multiframe or extended multiblock of its data; None where the tick
-- carries no data
abbrev pub data_place : TxOrder → Option ℕ
data_place Comma = None
data_place (Ilas x) = None
data_place (Data x first) = Some x
data_place Silent = None
data_place (Block x first) = Some x

-- how many source frames began before the tick that comes
abbrev pub frames_before : History → ℕ
frames_before h = length (flat_map (λ m. m.entered) h)

-- octet j of a tick at place x begins a frame
abbrev pub begins_frame : Params → ℕ → ℕ → Bool
begins_frame p x j = (octets_per_tick p * x + j) % p.f == 0

-- the octets of a tick that begin a frame
abbrev pub beginnings : Params → Option ℕ → List ℕ
beginnings p None = []
beginnings p (Some x) = filter (begins_frame p x) (numbers_from 0 (octets_per_tick p))

-- octet j of a tick at place x, where so many frames began before the tick: it belongs to the frame
-- that began last
abbrev pub octet_of : Plan → ℕ → ℕ → ℕ → ℕ → ℕ
octet_of s before x lane j = let p = s.link.params in
    let n = before + length (filter (begins_frame p x) (numbers_from 0 (j + 1))) - 1 in
    slice_index (frame_of p (source_frame s n)) (lane * p.f + (octets_per_tick p * x + j) % p.f)

-- the octets that a lane is handed, as one number with the first most significant
unfoldable pub handed_to : Plan → ℕ → Option ℕ → ℕ → ℕ
handed_to s before None lane = 0
handed_to s before (Some x) lane = fold (λ v j. 256 * v + octet_of s before x lane j) 0
    (numbers_from 0 (octets_per_tick s.link.params))

-- all that a lane was handed since the transmitter's reset
unfoldable pub handed_since : Plan → History → ℕ → List Handed
handed_since s h lane = map (λ m. record { order = m.order; octets = slice_index m.handed lane })
    (drop (last_reset s Tx (length h)) h)

unfoldable pub last_of : List Bool → List (List Bool) → List Bool
last_of d [] = d
last_of d (x ∷ xs) = last_of x xs

-- the bits of a lane in the tick that comes
unfoldable pub sent_by : LaneKind → Plan → History → TxOrder → ℕ → ℕ → List Bool
sent_by kind s h order octets lane =
    last_of []
    (kind.sends s.link.params lane
    (handed_since s h lane ++ (record { order = order; octets = octets }) ∷ []))

-- all bits of a lane so far
abbrev pub sent_bits : History → ℕ → List Bool
sent_bits h lane = flat_map (λ m. get_or m.sent lane []) h
