-- The frames that are gathered from what the lanes give.
-- Code: a row of octets for each lane.
use Rattle.std.specs.Prelude.{◌≡◌, ◌<◌, ℕ, ◌+◌, ◌-◌, ◌*◌, ◌/◌, ◌%◌, List, [], map, length, get_or, slice_index}
use Rattle.link_params.specs.declared.fields.Params.{Params}
use Rattle.link_params.specs.declared.cells.Mark.{Mark}
use Rattle.link_params.specs.declared.cells.Mark.TheVariants.{Ok as Good}
use Rattle.sample_map.specs.Frames.{words_of}
use Rattle.scenario.specs.Plans.{numbers_from}
use Rattle.link_model.specs.kept.Before.{Columns, cell_at, cells_of, mark_of, values_of}
use Rattle.link_model.specs.Moments.{Delivered}

-- a whole frame, with its octets, lane 0's first
pub record Whole : Type 0 where
  pub mark : Mark
  pub octets : List ℕ

-- the parameters, how many octets of each lane are there, the worst of their marks, the octets of
-- the frame, and the frames that became whole in the last tick
pub record Gathering : Type 0 where
  pub params : Params
  pub at : ℕ
  pub mark : Mark
  pub octets : List ℕ
  pub frames : List Whole

-- these columns were taken since the hunt
pub record HasGathered (now : Gathering) (p : Params) (columns : Columns) : Type 0 where
  pub same_params : now.params ≡ p
  pub count : now.at ≡ length columns % p.f
  pub worst : now.mark ≡ mark_of (cells_of p columns (length columns / p.f) now.at)
  pub octets : (lane j : ℕ) → lane < p.l → j < now.at → slice_index now.octets (lane * p.f + j)
      ≡ (cell_at p columns (length columns / p.f) lane j).value

-- frame n of the columns
abbrev pub whole_of : Params → Columns → ℕ → Whole
whole_of p columns n = record {
  mark = mark_of (cells_of p columns n p.f);
  octets = values_of (cells_of p columns n p.f);
}

-- those that are whole with these columns and were not with the first `before` of them
abbrev pub FramesAre : List Whole → Params → ℕ → Columns → Type 0
FramesAre frames p before columns = frames ≡ map (whole_of p columns)
    (numbers_from (before / p.f) (length columns / p.f - before / p.f))

-- the frames that leave with these; end: the octet time after the tick, begun: how many octets of
-- each lane came behind the last of them
abbrev pub no_frame : Whole
no_frame = record { mark = Good; octets = [] }

abbrev pub delivered_of : Params → ℕ → List Whole → ℕ → List Delivered
delivered_of p end frames begun =
    map (λ i. record {
      left = end + i * p.f - (begun + length frames * p.f);
      mark = (get_or frames i no_frame).mark;
      words = words_of p (get_or frames i no_frame).octets;
    }) (numbers_from 0 (length frames))
