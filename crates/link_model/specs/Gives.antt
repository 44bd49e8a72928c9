-- The entries that lanes give, and the frames that they make (JESD204B.01 clause 5.1, transport
-- layer, and clause 6).
-- Code: one frame is gathered at a time.
use Rattle.std.specs.Prelude.{ℕ, ◌+◌, ◌-◌, ◌*◌, ◌/◌, if◌then◌else◌, List, [], ◌∷◌, map, length, take, drop, get_or, fold, count_by}
use Rattle.std.specs.List.{flat_map}
use Rattle.jesd_base.specs.Bits.{bits, value}
use Rattle.link_params.specs.declared.fields.Params.{Params}
use Rattle.link_params.specs.declared.cells.LaneCell.{LaneCell}
use Rattle.link_params.specs.declared.cells.Mark.TheVariants.{Ok as Good}
use Rattle.link_params.specs.Lanes.{Entry, Placed, Held, worse}
use Rattle.link_params.specs.Laws.{is_b}
use Rattle.link_params.specs.Numbers.{octets_per_tick, period}
use Rattle.sample_map.specs.Frames.{words_of}
use Rattle.bring_up.specs.Decisions.{is_running}
use Rattle.scenario.specs.Plans.{numbers_from}
use Rattle.link_model.specs.Moments.{Delivered, History}

-- ---- what is given and delivered

-- how many entries each lane gave in the session
abbrev pub gives_in : History → ℕ
gives_in h = count_by (λ m. is_running m.stage) h

-- the cells among entries
unfoldable pub cells_in : List Entry → List LaneCell
cells_in [] = []
cells_in (Placed ∷ es) = cells_in es
cells_in (Held c ∷ es) = c ∷ cells_in es

-- the octets of a cell, each with the cell's mark
abbrev pub octets_in : Params → LaneCell → List LaneCell
octets_in p c = let n = octets_per_tick p in
    map (λ j. record {
      value = value (take 8 (drop (8 * j) (bits (8 * n) c.value)));
      mark =
          c.mark;
    }) (numbers_from 0 n)

-- the octets of the first n entries of a session
unfoldable pub octets_given : Params → ℕ → List Entry → List LaneCell
octets_given p n entries = flat_map (octets_in p) (cells_in (take n entries))

-- the octets of frame n of a session on a lane
abbrev pub part_of_frame : Params → ℕ → List LaneCell → List LaneCell
part_of_frame p n octets = take p.f (drop (n * p.f) octets)

-- the octets of frame n of a session, lane 0's first, from all octets of each lane
abbrev pub frame_cells : Params → ℕ → List (List LaneCell) → List LaneCell
frame_cells p n octets = flat_map (part_of_frame p n) octets

-- frame n of a session; from: the octet time of frame 0
abbrev pub frame_given : Params → ℕ → List (List LaneCell) → ℕ → Delivered
frame_given p from octets n = record {
  left = from + n * p.f;
  mark = fold worse Good (map (λ c. c.mark) (frame_cells p n octets));
  words = words_of p (map (λ c. c.value) (frame_cells p n octets));
}

-- how many whole frames so many entries of a session give
abbrev pub frames_in : Params → ℕ → List Entry → ℕ
frames_in p n entries = length (octets_given p n entries) / p.f

-- the frames whose last octets are given in a tick, where n entries of the session were given
-- before, of the entries of each lane of the frame; r: the tick of the release
unfoldable pub frames_given : Params → ℕ → ℕ → List (List Entry) → List Delivered
frames_given p r n entries =
    let octets = map (octets_given p (n + 1)) entries in
    let before = frames_in p n (get_or entries 0 []) in
    let now = frames_in p (n + 1) (get_or entries 0 []) in
    let from = octets_per_tick p * r + (if is_b p.mode then 4 * period p else 0) in
    map (frame_given p from octets) (numbers_from before (now - before))
