-- The octets of frames in the rows of the lanes: those of the frames that became whole in the last
-- tick, and behind them those of the next one.
-- Code: one array.
use Rattle.std.specs.Prelude.{◌≡◌, ◌<◌, ◌≤◌, ℕ, ◌+◌, ◌*◌, ◌/◌, ◌%◌, ◌-◌, ◌^◌, ◌==◌, ◌⊎◌, if◌then◌else◌, List, Option, Some, fold, get_or, map, length, slice_index}
use Rattle.link_params.specs.declared.fields.Params.{Params}
use Rattle.link_params.specs.declared.cells.LaneCell.{LaneCell}
use Rattle.link_params.specs.declared.cells.Mark.{Mark}
use Rattle.link_params.specs.declared.cells.Mark.TheVariants.{Ok as Good}
use Rattle.link_params.specs.Lanes.{worse}
use Rattle.link_params.specs.Numbers.{octets_per_tick}
use Rattle.scenario.specs.Plans.{numbers_from}
use Rattle.link_model.specs.kept.Before.{no_cell}
use Rattle.link_run.specs.kept.Gathered.{Whole}

-- frame i of the rows, which have `room` octets each: L*F octets, lane 0's first
abbrev pub frame_in : List ℕ → Params → ℕ → ℕ → List ℕ
frame_in rows p room i =
    map (λ k. slice_index rows (k / p.f * room + (i * p.f + k % p.f))) (numbers_from 0 (p.l * p.f))

-- with its mark: the first frame's or that of the others
abbrev pub whole_in : List ℕ → Params → ℕ → Mark → Mark → ℕ → Whole
whole_in rows p room first others i = record {
  mark = if i == 0 then first else others;
  octets = frame_in rows p room i;
}

-- the sizes of the rows, and how much is in them: `frames` are those of a tick, where each has whole
-- ones, else 0
pub record HasRowSizes (p : Params) (per_tick size frames room : ℕ) (rows : List ℕ) (at whole : ℕ)
    : Type 0 where
  pub lanes : 1 ≤ p.l
  pub size_is : size ≡ p.f
  pub most : size ≤ 256
  pub ticks : per_tick ≡ octets_per_tick p
  pub one_or_eight : (per_tick ≡ 1) ⊎ (per_tick ≡ 8)
  pub whole_frames : 0 < frames → frames * size ≡ per_tick
  pub no_rest : 0 < frames → at ≡ 0
  pub room_is : room ≡ size + per_tick
  pub count : length rows ≡ p.l * room
  pub within : at < size
  pub fits : whole * size + at ≤ room
  pub few : whole ≤ per_tick

-- n octets were written at a place, and nothing elsewhere
pub record IsWritten (old now : List ℕ) (place n : ℕ) (octet : ℕ → ℕ) : Type 0 where
  pub size : length now ≡ length old
  pub written : (i : ℕ) → i < n → slice_index now (place + i) ≡ octet i
  pub kept : (k : ℕ) → (k < place) ⊎ (place + n ≤ k) → slice_index now k ≡ slice_index old k

-- n octets of each of so many rows, from octet `from` on, came to its beginning
pub record AreMoved (old now : List ℕ) (lanes room from n : ℕ) : Type 0 where
  pub size : length now ≡ length old
  pub moved : (lane i : ℕ) → lane < lanes → i < n
      → slice_index now (lane * room + i) ≡ slice_index old (lane * room + (from + i))

-- the last n octets of each cell were put behind the first `at` of each row, where each lane gave a
-- cell; mark: the worst of theirs
pub record IsPut (old now : List ℕ) (given : List (Option LaneCell)) (room at n : ℕ) (mark : Mark)
    : Type 0 where
  pub size : length now ≡ length old
  pub worst : (column : List LaneCell) → given ≡ map (λ c. Some c) column
      → mark ≡ fold worse Good (map (λ c. c.mark) column)
  pub put : (column : List LaneCell) → given ≡ map (λ c. Some c) column
      → (lane i : ℕ) → lane < length column → i < n
      → slice_index now (lane * room + (at + i))
      ≡ (get_or column lane no_cell).value / 2 ^ (8 * (n - 1 - i)) % 256
  pub kept : (lane i : ℕ) → i < at
      → slice_index now (lane * room + i) ≡ slice_index old (lane * room + i)
