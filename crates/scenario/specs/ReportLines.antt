-- The lines of a report (this project's own format).
-- Code: each line is written into a buffer.
use Rattle.std.specs.Prelude.{ℕ, nat_le, if◌then◌else◌, List, [], ◌∷◌, ◌++◌, codes, decimal}
use Rattle.std.specs.List.{flat_map}
use Rattle.link_params.specs.declared.fields.Params.{Params}
use Rattle.link_params.specs.declared.cells.Mark.{Mark}
use Rattle.link_params.specs.declared.cells.Mark.TheVariants as mark
use Rattle.link_params.specs.declared.alarms.Device.{Device}
use Rattle.link_params.specs.declared.alarms.Device.TheVariants as device
use Rattle.link_params.specs.declared.alarms.Alarm.{Alarm}
use Rattle.link_params.specs.declared.alarms.Alarm.TheVariants as alarm
use Rattle.link_params.specs.Links.{Link}
use Rattle.link_params.specs.Numbers.{period, lat_ticks, latency, depth, bound}
use Rattle.scenario.specs.declared.report_row.Row.{Row}
use Rattle.scenario.specs.declared.report_row.Row.TheVariants as row
use Rattle.scenario.specs.Digits.{hex_digits, word_digits}

-- fields, each behind a comma
abbrev pub fields_text : List (List ℕ) → List ℕ
fields_text fields = flat_map (λ f. 44 ∷ f) fields

-- a line: its kind, its fields, a line feed
abbrev pub line : List ℕ → List (List ℕ) → List ℕ
line kind fields = kind ++ (fields_text fields ++ codes "\n")

abbrev pub word_fields : Params → List ℕ → List (List ℕ)
word_fields p [] = []
word_fields p (w ∷ words) = hex_digits (word_digits p) w ∷ word_fields p words

abbrev pub device_name : Device → List ℕ
device_name device.Tx = codes "tx"
device_name device.Rx = codes "rx"

abbrev pub mark_name : Mark → List ℕ
mark_name mark.Ok = codes "ok"
mark_name mark.Fixed = codes "fixed"
mark_name mark.Bad = codes "bad"

-- the fields of another lane's number: version 1 of the format has configuration octet 2 in its place
abbrev pub lane_id_fields : ℕ → ℕ → ℕ → List (List ℕ)
lane_id_fields version lane lid = if nat_le 2 version
    then codes "lane_id" ∷ decimal lane ∷ decimal lid ∷ []
    else codes "config_mismatch" ∷ decimal lane ∷ decimal 2 ∷ []

-- the fields of an alarm behind its tick, in a version of the format
abbrev pub alarm_fields : ℕ → Alarm → List (List ℕ)
alarm_fields version (alarm.LaneWindow lane offset) = codes "lane_window" ∷ decimal lane ∷ decimal offset
    ∷ []
alarm_fields version (alarm.LaneMissing lane) = codes "lane_missing" ∷ decimal lane ∷ []
alarm_fields version (alarm.LaneLost lane) = codes "lane_lost" ∷ decimal lane ∷ []
alarm_fields version (alarm.NoLock lane) = codes "no_lock" ∷ decimal lane ∷ []
alarm_fields version (alarm.IlasFault lane place) = codes "ilas_fault" ∷ decimal lane ∷ decimal place ∷ []
alarm_fields version (alarm.ConfigMismatch lane octet) = codes "config_mismatch" ∷ decimal lane
    ∷ decimal octet ∷ []
alarm_fields version (alarm.LaneId lane lid) = lane_id_fields version lane lid
alarm_fields version (alarm.SysrefPhase d off) = codes "sysref_phase" ∷ device_name d ∷ decimal off ∷ []
alarm_fields version alarm.StartTimeout = codes "start_timeout" ∷ []

-- the line of a row, with the words of an enter or a frame row, in a version of the format
unfoldable pub line_of : ℕ → Link → Row → List ℕ → List ℕ
line_of version k row.Link words =
    line (codes "link") (decimal (period k.params) ∷ decimal (lat_ticks k.params k.timing)
    ∷ decimal (latency k.params k.timing) ∷ decimal (depth k.params k.timing)
    ∷ decimal (bound k.params k.timing) ∷ [])
line_of version k (row.Hunt t) words = line (codes "hunt") (decimal t ∷ [])
line_of version k (row.Arm t) words = line (codes "arm") (decimal t ∷ [])
line_of version k (row.Release t) words = line (codes "release") (decimal t ∷ [])
line_of version k (row.Alarm t a) words = line (codes "alarm") (decimal t ∷ alarm_fields version a)
line_of version k (row.Enter o) words = line (codes "enter") (decimal o ∷ word_fields k.params words)
line_of version k (row.Frame o m) words =
    line (codes "frame") (decimal o ∷ mark_name m ∷ word_fields k.params words)
line_of version k (row.End n) words =
    line (codes "end") (decimal n.ticks ∷ decimal n.entered ∷ decimal n.delivered ∷ decimal n.ok
    ∷ decimal n.fixed ∷ decimal n.bad ∷ decimal n.alarms ∷ decimal n.fullest ∷ [])
