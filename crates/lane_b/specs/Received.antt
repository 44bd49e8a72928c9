-- What an 8b/10b receiver lane reports and which entries its buffer is given, of all that it took
-- since its hunt (JESD204B.01 clauses 5.2 scrambling, 5.3.3.4 character replacement and 5.3.3.5
-- initial lane alignment; the marks are this project's own).
-- Code: one character a tick, with marks that travel in cells.
use Rattle.std.specs.Prelude.{ℕ, zero, suc, ◌||◌, Bool, true, false, if◌then◌else◌, List, [], ◌∷◌, ◌++◌, map, length, take, drop, Option, Some, None}
use Rattle.std.specs.List.{flat_map, slice_index_or}
use Rattle.jesd_base.specs.Bits.{bits}
use Rattle.link_params.specs.declared.fields.Params.{Params}
use Rattle.link_params.specs.declared.fields.Timing.{Timing}
use Rattle.link_params.specs.declared.ilas_state.IlasState.TheVariants.{Idle}
use Rattle.link_params.specs.declared.lane_report.LaneReport.{LaneReport}
use Rattle.link_params.specs.declared.cells.LaneCell.{LaneCell}
use Rattle.link_params.specs.declared.cells.Mark.{Mark}
use Rattle.link_params.specs.declared.cells.Mark.TheVariants.{Ok as Good, Bad}
use Rattle.link_params.specs.Lanes.{Entry, Placed, Held, LaneKind, Taken, is_inside}
use Rattle.code_8b10b.specs.declared.character.Reading.{Reading}
use Rattle.code_8b10b.specs.declared.character.Reading.TheVariants.{Invalid}
use Rattle.lane_scramble.specs.Scrambling.{descrambled15}
use Rattle.char_replace.specs.declared.restored.Restored.{Restored}
use Rattle.char_replace.specs.Restoring.{given_at}
use Rattle.ilas.specs.Checked.{ilas_state}
use Rattle.lane_b.specs.Sent.{octets_of, sent_b}
use Rattle.lane_b.specs.Locking.{Lock, lock, since_start, start_of}
use Rattle.lane_b.specs.Loss.{ilas_length, is_lost}

-- ---- the report

abbrev pub report_of : Params → ℕ → List Taken → Option Lock → LaneReport
report_of p lane taken None = record { locked = false; started = None; lost = false; ilas = Idle }
report_of p lane taken (Some l) = record {
  locked = true;
  started = start_of taken l;
  lost = is_lost p (since_start l);
  ilas = ilas_state p lane (since_start l);
}

unfoldable pub report_b : Params → Timing → ℕ → List Taken → LaneReport
report_b p t lane taken = report_of p lane taken (lock taken)

-- ---- data

-- what the first n readings of the data give, before descrambling
unfoldable pub restored : Params → List Reading → ℕ → List Restored
restored p read zero = []
restored p read (suc n) = restored p read n ++ given_at p (restored p read n) n (slice_index_or read n Invalid) ∷ []

-- octets, descrambled from the first on
abbrev pub descrambled_octets : List ℕ → List ℕ
descrambled_octets octets = octets_of (length octets) (descrambled15 (flat_map (bits 8) octets))

-- with scrambling an octet is bad where its own character or one of the two before it is bad
unfoldable pub spread : Bool → Bool → List Bool → List Bool
spread two one [] = []
spread two one (b ∷ bs) = (two || one || b) ∷ spread one b bs

abbrev pub marked : Bool → Mark
marked bad = if bad then Bad else Good

unfoldable pub cells : List ℕ → List Bool → List LaneCell
cells [] bads = []
cells (o ∷ octets) [] = []
cells (o ∷ octets) (b ∷ bads) = record { value = o; mark = marked b } ∷ cells octets bads

-- the octets of the data, each with its mark
unfoldable pub data_cells : Params → List Reading → List LaneCell
data_cells p read =
    let octets = map (λ g. g.octet) (restored p read (length read)) in
    let bads = map (λ g. g.bad) (restored p read (length read)) in
    if p.scr then cells (descrambled_octets octets) (spread false false bads) else cells octets bads

-- ---- the entries

-- one for each reading since the start
abbrev pub entries_since : Params → List Reading → List Entry
entries_since p since = map (λ r. Placed) (take (ilas_length p) since) ++ map Held (data_cells p (drop (ilas_length p) since))

abbrev pub is_started_inside : Timing → Option ℕ → Bool
is_started_inside t None = false
is_started_inside t (Some offset) = is_inside t offset

abbrev pub entries_of : Params → Timing → List Taken → Option Lock → List Entry
entries_of p t taken None = []
entries_of p t taken (Some l) = if is_started_inside t (start_of taken l) then entries_since p (since_start l) else []

-- all entries that came into the buffer; a lane that started outside its window puts none there
unfoldable pub entries_b : Params → Timing → ℕ → List Taken → List Entry
entries_b p t lane taken = entries_of p t taken (lock taken)

-- 8b/10b lanes
abbrev pub lanes_b : LaneKind
lanes_b = record { sends = sent_b; report = report_b; entries = entries_b }
