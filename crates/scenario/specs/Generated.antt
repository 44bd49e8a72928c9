-- The scenario of a number: what `gen` runs, drawn from the number alone (this project's own).
-- Places and ticks are counted from 0.
-- Code: one draw after another, over the state of the last one.
use Rattle.std.specs.Prelude.{ℕ, zero, suc, ◌+◌, ◌-◌, ◌*◌, ◌/◌, ◌%◌, ◌^◌, ◌==◌, true, false, if◌then◌else◌, [], ◌∷◌, ◌++◌, map, replicate, pos, ◌-ℤ◌}
use Rattle.link_params.specs.declared.fields.Mode.{Mode}
use Rattle.link_params.specs.declared.fields.Mode.TheVariants as mode
use Rattle.link_params.specs.declared.fields.Params.{Params}
use Rattle.link_params.specs.declared.fields.Timing.{Timing}
use Rattle.link_params.specs.declared.alarms.Device.{Device}
use Rattle.link_params.specs.declared.alarms.Device.TheVariants as device
use Rattle.link_params.specs.Laws.{is_b}
use Rattle.link_params.specs.Numbers.{period, wait, width}
use Rattle.scenario.specs.declared.plan.Print.TheVariants as print
use Rattle.scenario.specs.declared.plan.What.TheVariants as what
use Rattle.scenario.specs.declared.plan.Event.{Event}
use Rattle.scenario.specs.declared.plan.Jitter.{Jitter}
use Rattle.scenario.specs.declared.plan.Flip.{Flip}
use Rattle.scenario.specs.Plans.{Plan, Source, numbers_from}

-- ---- draws

-- the state after n draws: it begins as the number
unfoldable pub state : ℕ → ℕ → ℕ
state number zero = number
state number (suc n) = (state number n * 6364136223846793005 + 1442695040888963407) % 2 ^ 64

-- draw k, one of the numbers below n
unfoldable pub draw : ℕ → ℕ → ℕ → ℕ
draw number k n = state number (k + 1) / 2 ^ 33 % n

-- ---- the link

abbrev pub mode_of_draw : ℕ → Mode
mode_of_draw d = if d == 0 then mode.B else (if d == 1 then mode.CCrc else mode.CFec)

-- as many converters as lanes, each with one sample of 16 bits in a frame of two octets, scrambled;
-- so many multiblocks with 64b/66b lanes
abbrev pub params_with : Mode → ℕ → ℕ → Params
params_with m lanes multiblocks = record {
  mode = m;
  l = lanes;
  m = lanes;
  f = 2;
  s = 1;
  n = 16;
  np = 16;
  cs = 0;
  hd = false;
  scr = true;
  k = if is_b m then 32 else 0;
  e = if is_b m then 0 else multiblocks;
}

-- a mode, one to eight lanes, one to four multiblocks
abbrev pub drawn_params : ℕ → Params
drawn_params number =
    params_with (mode_of_draw (draw number 0 3)) (1 + draw number 1 8) (1 + draw number 2 4)

-- how many ticks the receiver is later than the transmitter
abbrev pub lateness : ℕ → Params → ℕ
lateness number p = draw number 3 (period p)

-- the greatest arrival of a lane
abbrev pub latest : ℕ → Params → ℕ
latest number p = 1 + draw number 5 (period p / 2)

-- RBD gives the least latency that the window allows
abbrev pub drawn_timing : ℕ → Params → Timing
drawn_timing number p = record {
  sysref_period = 2 * period p;
  sysref_start = 2;
  tx_skew = 8;
  rx_skew = 8 + 16 * lateness number p;
  tolerance = 7;
  rbd = (latest number p + wait p + period p - lateness number p) % period p;
  sync_delay = draw number 4 (period p);
  w_lo = 1;
  w_hi = latest number p;
}

-- ---- events, jitters and flips

-- the delay of a lane in bits: it arrives after a whole number of ticks, some bits early
abbrev pub lane_delay : ℕ → Params → ℕ → ℕ
lane_delay number p lane = let ticks = 1 + draw number (6 + 2 * lane) (latest number p) in
    let early = draw number (7 + 2 * lane) (width p) in ticks * width p - early

-- the delay of a lane before anything is sent
abbrev pub drawn_delay : ℕ → Params → ℕ → Event
drawn_delay number p lane =
    record { tick = 0; what = what.Delay lane (lane_delay number p lane) }

-- an edge of the transmitter comes up to seven sixteenths of a tick early or late
abbrev pub drawn_jitter : ℕ → Params → ℕ → Jitter
drawn_jitter number p i = record {
  device = device.Tx;
  edge = i;
  sixteenths = pos (draw number (6 + 2 * p.l + i) 15) -ℤ pos 7;
}

abbrev pub device_of_draw : ℕ → Device
device_of_draw d = if d == 0 then device.Tx else device.Rx

-- the reset of a device in the middle of the run
abbrev pub drawn_reset : ℕ → Params → Event
drawn_reset number p =
    record { tick = 8192; what = what.Reset (device_of_draw (draw number (14 + 2 * p.l) 2)) }

-- one to nine bits of a lane are inverted
abbrev pub drawn_flip : ℕ → Params → ℕ → Flip
drawn_flip number p i = let at = 15 + 2 * p.l + 3 * i in record {
  lane = draw number at p.l;
  first = draw number (at + 1) (width p * 16384 - 9);
  count = 1 + draw number (at + 2) 9;
}

-- ---- the plan of a number

-- 16,384 ticks of words that count from 0, of which no frame is printed; each lane has a delay, a
-- device is reset once, the first eight edges have jitter, and there are sixteen flips; the lanes are
-- wired in their order, and none is inverted
unfoldable pub generated : ℕ → Plan
generated number = let p = drawn_params number in record {
  version = 1;
  link = record { params = p; timing = drawn_timing number p };
  ticks = 16384;
  print = print.None;
  source = Source.Ramp 0 1;
  events = map (drawn_delay number p) (numbers_from 0 p.l) ++ drawn_reset number p ∷ [];
  jitters = map (drawn_jitter number p) (numbers_from 0 8);
  flips = map (drawn_flip number p) (numbers_from 0 16);
  wire = numbers_from 0 p.l;
  route = numbers_from 0 p.l;
  inverted = replicate p.l false;
}
