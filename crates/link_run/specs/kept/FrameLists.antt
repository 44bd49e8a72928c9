-- The frames of a list, of which time and mark stand in one array and the words in another.
-- Code: two arrays.
use Rattle.std.specs.Prelude.{ℕ, ◌*◌, List, map, length, get_or, take, drop}
use Rattle.link_params.specs.declared.cells.Mark.TheVariants.{Ok as Good}
use Rattle.scenario.specs.Plans.{numbers_from}
use Rattle.link_model.specs.Moments.{Delivered}
use Rattle.link_run.specs.declared.frame_list.Left.{Left}

abbrev pub no_left : Left
no_left = record { time = 0; mark = Good }

abbrev pub frames_kept : List Left → List ℕ → ℕ → List Delivered
frames_kept frames words size = map (λ i. record {
  left = (get_or frames i no_left).time;
  mark = (get_or frames i no_left).mark;
  words = take size (drop (i * size) words);
}) (numbers_from 0 (length frames))
