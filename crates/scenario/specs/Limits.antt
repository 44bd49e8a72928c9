-- What the values of a scenario obey (this project's own limits). Ticks and edges are counted from
-- 0, delays and flips are in bits, and jitter is in sixteenths of a tick.
-- Code: early returns, record by record.
use Rattle.std.specs.Prelude.{ℕ, ◌+◌, ◌-◌, ◌*◌, ◌==◌, nat_le, nat_lt, ◌&&◌, List, Bool, true, false, length, pos, neg_ℤ, int_le}
use Rattle.std.specs.List.{list_all, list_any}
use Rattle.link_params.specs.declared.fields.Params.{Params}
use Rattle.link_params.specs.Numbers.{period, width}
use Rattle.scenario.specs.declared.input.Input.{Input}
use Rattle.scenario.specs.declared.input.Input.TheVariants.{Ramp, Frames}
use Rattle.scenario.specs.declared.plan.What.{What}
use Rattle.scenario.specs.declared.plan.What.TheVariants.{Reset, Delay, Dead}
use Rattle.scenario.specs.declared.plan.Event.{Event}
use Rattle.scenario.specs.declared.plan.Jitter.{Jitter}
use Rattle.scenario.specs.declared.plan.Flip.{Flip}
use Rattle.scenario.specs.Numbers.{numbers_from}
use Rattle.scenario.specs.Reads.{word_limit}

abbrev pub what_fits : Params → What → Bool
what_fits p (Reset d) = true
what_fits p (Delay lane bits) = nat_lt lane p.l && nat_le bits ((period p - 1) * width p)
what_fits p (Dead lane on) = nat_lt lane p.l

-- an event of a run of so many ticks
abbrev pub event_fits : Params → ℕ → Event → Bool
event_fits p ticks e = nat_lt e.tick ticks && what_fits p e.what

abbrev pub jitter_fits : Jitter → Bool
jitter_fits j = nat_le j.edge 1048576
    && (int_le (neg_ℤ (pos 32)) j.sixteenths && int_le j.sixteenths (pos 32))

abbrev pub flip_fits : Params → ℕ → Flip → Bool
flip_fits p ticks f = nat_lt f.lane p.l
    && (nat_le 1 f.count && nat_le (f.first + f.count) (width p * ticks))

-- the start and the step of a ramp are words
abbrev pub ramp_fits : Params → Input → Bool
ramp_fits p (Ramp start step) = nat_lt start (word_limit p) && nat_lt step (word_limit p)
ramp_fits p (Frames words) = true

-- there is a ramp, or at least one frame
abbrev pub has_words : Input → Bool
has_words (Ramp start step) = true
has_words (Frames words) = nat_le 1 (length words.items)

-- the words are those of frames, and of no ramp
abbrev pub is_frames : Input → Bool
is_frames (Ramp start step) = false
is_frames (Frames words) = true

-- these are the lanes below l, each once, in some order: there are l of them, all below l, and each
-- lane below l is one of them
unfoldable pub is_order : ℕ → List ℕ → Bool
is_order l lanes = (length lanes == l) && list_all (λ x. nat_lt x l) lanes
    && list_all (λ lane. list_any (λ x. x == lane) lanes) (numbers_from 0 l)
