-- The premises and numbers of the laws on worked scenarios: the two-lane 8b/10b link with SYSREF
-- edges in ticks 3 and 10, whose lanes arrive after 5 and 20 ticks and after 20 and 5 ones from
-- tick 560 on, and the 64b/66b link with FEC and one burst.
use Rattle.std.proofs.Common.{◌≡◌, ℕ, true, false, List, [], ◌∷◌, refl, negsuc, nat_abs, arith}
use Rattle.link_params.specs.declared.alarms.Device.TheVariants.{Tx, Rx}
use Rattle.link_params.specs.declared.fields.Params.{Params}
use Rattle.link_params.specs.declared.fields.Timing.{Timing}
use Rattle.link_params.specs.declared.fields.Mode.TheVariants.{B, CFec}
use Rattle.link_params.specs.Numbers.{bound, depth, lat_ticks, latency}
use Rattle.jesd_base.specs.Search.{first_from}
use Rattle.code_8b10b.specs.declared.character.Char.TheVariants.{Data, Control}
use Rattle.code_8b10b.specs.declared.character.Reading.{Reading}
use Rattle.code_8b10b.specs.declared.character.Reading.TheVariants.{Char as Read, Disparity, Invalid}
use Rattle.sysref_clock.specs.Clocks.{phase_after}
use Rattle.scenario.specs.declared.plan.What.{What}
use Rattle.scenario.specs.declared.plan.What.TheVariants.{Reset, Delay}
use Rattle.scenario.specs.declared.plan.Event.{Event}
use Rattle.scenario.specs.declared.plan.Jitter.{Jitter}
use Rattle.scenario.specs.declared.plan.Print.TheVariants as print
use Rattle.scenario.specs.Plans.{Plan, Ramp, numbers_from}
use Rattle.link_model.specs.Edges.{edge_tick, edges, is_edge, is_reset, jitter, last_reset}
use Rattle.link_model.specs.Carried.{delay_at, is_dead, is_inverted}
use Rattle.link_laws.specs.Premises.{ReceivesBit, arrival, has_dead, has_event}
use Rattle.link_laws.specs.Laws.{HasLeft, first_entry}
use Rattle.link_laws.specs.Checked.{pieces, repeated_pieces}

params : Params
params = record {
  mode = B;
  l = 2;
  m = 2;
  f = 2;
  s = 1;
  n = 16;
  np = 16;
  cs = 0;
  hd = false;
  scr =
      true;
  k = 32;
  e = 0;
}

timing : Timing
timing = record {
  sysref_period = 128;
  sysref_start = 2;
  tx_skew = 8;
  rx_skew = 120;
  tolerance =
      7;
  rbd = 20;
  sync_delay = 5;
  w_lo = 5;
  w_hi = 20;
}

event : ℕ → What → Event
event t w = record { tick = t; what = w }

plan : List Event → List Jitter → Plan
plan events jitters = record {
  version = 1;
  link = record { params = params; timing = timing };
  ticks = 1190;
  print = print.Frames;
  source = Ramp 0 1;
  events = events;
  jitters = jitters;
  flips = [];
  wire = 0 ∷ 1 ∷ [];
  route = 0 ∷ 1 ∷ [];
  inverted = false ∷ false ∷ [];
}

-- the lanes' delays change places with a reset of the receiver
exchanged : Plan
exchanged = plan (event 0 (Delay 0 50) ∷ event 0 (Delay 1 200) ∷ event 560 (Reset Rx)
    ∷ event 560 (Delay 0 200) ∷ event 560 (Delay 1 50) ∷ []) []

link-numbers : ((lat_ticks params timing ≡ 27) × (latency params timing ≡ 27))
    × ((depth params timing ≡ 23) × (bound params timing ≡ 2432))
unfolding params timing lat_ticks first_from
link-numbers = ((refl, refl), (refl, refl))

arrivals : ((arrival exchanged 0 259 ≡ 5) × (arrival exchanged 1 259 ≡ 20))
    × ((arrival exchanged 0 926 ≡ 20) × (arrival exchanged 1 926 ≡ 5))
unfolding exchanged plan params timing event delay_at
arrivals = ((refl, refl), (refl, refl))

-- the delay that a lane outside has: 210 bits are 21 ticks, 40 are 4, 300 are 30
outside : (delay : ℕ) → ℕ
outside delay = arrival (plan (event 0 (Delay 1 delay) ∷ []) []) 1 286

outsides : (outside 210 ≡ 21) × ((outside 40 ≡ 4) × (outside 300 ≡ 30))
unfolding outside plan params timing event delay_at
outsides = (refl, (refl, refl))

disturbed : ((has_event exchanged 560 ≡ true) × (has_event exchanged 559 ≡ false))
    × (has_dead exchanged 600 ≡ false)
unfolding exchanged plan params timing event is_dead numbers_from
disturbed = ((refl, refl), refl)

captures : (edge_tick exchanged Tx 0 ≡ 3)
    × ((edge_tick exchanged Rx 0 ≡ 10) × (edge_tick exchanged Rx 5 ≡ 650))
unfolding exchanged plan params timing event edge_tick jitter
captures = (refl, (refl, refl))

-- an edge half a tick early is captured in tick 2, and is not met
missed : (edge_tick (plan [] ((record { device = Tx; edge = 0; sixteenths = negsuc 7 }) ∷ [])) Tx 0
    ≡ 2) × (nat_abs (jitter ((record { device = Tx; edge = 0; sixteenths = negsuc 7 }) ∷ []) Tx 0)
    ≡ 8)
unfolding plan params timing edge_tick jitter
missed = (refl, refl)

-- o of both sessions: the releases of ticks 286 and 926 come 27 ticks after 259 and 899
entries : (first_entry params 259 ≡ 515) × (first_entry params 899 ≡ 1155)
unfolding params
entries = (refl, refl)

-- nine frames have left by the end of tick 559, and no tenth
left : (HasLeft exchanged 559 515 8) × (HasLeft exchanged 559 515 9 → ⊥)
unfolding exchanged plan params timing lat_ticks first_from
left = (omega arith, λ more. omega arith)

-- four of the second session by the end of tick 1189
left-again : (HasLeft exchanged 1189 1155 3) × (HasLeft exchanged 1189 1155 4 → ⊥)
unfolding exchanged plan params timing lat_ticks first_from
left-again = (omega arith, λ more. omega arith)

-- ---- one burst

fec : Plan
fec = record {
  version = 1;
  link = record {
    params = record {
      mode = CFec;
      l = 1;
      m = 1;
      f = 2;
      s = 1;
      n = 16;
      np = 16;
      cs = 0;
      hd =
          false;
      scr = true;
      k = 0;
      e = 1;
    };
    timing = record {
      sysref_period = 64;
      sysref_start = 2;
      tx_skew = 8;
      rx_skew = 8;
      tolerance =
          7;
      rbd = 10;
      sync_delay = 0;
      w_lo = 1;
      w_hi = 8;
    };
  };
  ticks = 302;
  print = print.Frames;
  source = Ramp 0 1;
  events = [];
  jitters = [];
  flips = (record { lane = 0; first = 15043; count = 5 })
      ∷ (record { lane = 0; first = 15050; count = 4 }) ∷ [];
  wire = 0 ∷ [];
  route = 0 ∷ [];
  inverted = false ∷ [];
}

inverted : ((is_inverted fec 0 15043 ≡ true) × (is_inverted fec 0 15047 ≡ true))
    × ((is_inverted fec 0 15048 ≡ false) × (is_inverted fec 0 15053 ≡ true))
unfolding fec
inverted = ((refl, refl), (refl, refl))

-- the burst spans two multiblocks: its first five bits are the last ones of one, its other four the
-- first ones of the next
last-bits : ReceivesBit fec 0 15043 (record { multiblock = 195; bit = 2043 })
unfolding fec delay_at edges is_edge edge_tick jitter last_reset is_reset phase_after first_from
    numbers_from
last-bits = record { place = 31; phase = refl; began = refl; behind_header = refl; number = refl }

first-bits : ReceivesBit fec 0 15050 (record { multiblock = 227; bit = 0 })
unfolding fec delay_at edges is_edge edge_tick jitter last_reset is_reset phase_after first_from
    numbers_from
first-bits = record { place = 0; phase = refl; began = refl; behind_header = refl; number = refl }

-- ---- the pieces of an octet

plain : Params
plain = record params { scr = false }

read : List Reading
read = Read (Data 0xB5) ∷ Read (Data 0xB5) ∷ Read (Data 0xB5) ∷ Read (Control 0xFC) ∷ Invalid
    ∷ Disparity (Control 0xFC) ∷ []

-- /F/ at place 3 repeats place 1, at place 5 it repeats place 3 and so place 1 as well; a scrambled
-- octet has three pieces
pieces-are : (pieces plain read 3 ≡ 3 ∷ 1 ∷ [])
    × ((pieces plain read 5 ≡ 5 ∷ 3 ∷ 1 ∷ [])
    × ((pieces plain read 4 ≡ 4 ∷ []) × (pieces params read 4 ≡ 2 ∷ 3 ∷ 4 ∷ [])))
unfolding plain params read repeated_pieces numbers_from
pieces-are = (refl, (refl, (refl, refl)))
