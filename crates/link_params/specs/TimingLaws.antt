-- The laws of a link's timing, 13 to 17 (this project's own). Skews and the tolerance are in
-- sixteenths of a tick, all other times in ticks.
-- Code: the first broken law is sought in order, with early returns.
use Rattle.std.specs.Prelude.{ℕ, ◌+◌, ◌*◌, ◌%◌, ◌==◌, ◌&&◌, nat_le, nat_lt, Bool, List, [], ◌∷◌, Option}
use Rattle.link_params.specs.declared.fields.Params.{Params}
use Rattle.link_params.specs.declared.fields.Timing.{Timing}
use Rattle.link_params.specs.Laws.{ceil, is_within, first_broken}
use Rattle.link_params.specs.Numbers.{period, wait, lat_ticks}

-- SYSREF comes on boundaries
abbrev pub is_sysref : Params → Timing → Bool
is_sysref p t = (t.sysref_period % period p == 0) && is_within (period p) 1048576 t.sysref_period
    && nat_le 2 t.sysref_start && nat_lt t.sysref_start t.sysref_period

-- an edge with this skew is captured in one tick, whatever its jitter within the tolerance: the least whole numbers not
-- below (skew - tolerance)/16 and (skew + tolerance)/16 are one. Both sides have the tolerance added sixteen times, so
-- that nothing is below 0
abbrev pub is_steady : ℕ → ℕ → Bool
is_steady tolerance skew = ceil (skew + 15 * tolerance) 16 == ceil (skew + 17 * tolerance) 16

abbrev pub are_steady : Params → Timing → Bool
are_steady p t = nat_le t.tx_skew (16 * period p) && nat_le t.rx_skew (16 * period p)
    && is_steady t.tolerance t.tx_skew && is_steady t.tolerance t.rx_skew

-- no release point falls where some lanes inside the window have arrived and others have not
abbrev pub has_window : Params → Timing → Bool
has_window p t = nat_le t.w_lo t.w_hi && nat_lt t.w_hi (period p)
    && nat_lt (lat_ticks p t) (t.w_lo + wait p + period p)

abbrev pub timing_laws : Params → Timing → List (ℕ × Bool)
timing_laws p t =
    (13, is_sysref p t)
    ∷ (14, are_steady p t)
    ∷ (15, nat_lt t.rbd (period p))
    ∷ (16, nat_lt t.sync_delay (period p))
    ∷ (17, has_window p t)
    ∷ []

-- the first broken law of 13 to 17
abbrev pub broken_timing : Params → Timing → Option ℕ
broken_timing p t = first_broken (timing_laws p t)
