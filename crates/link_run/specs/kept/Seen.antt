-- What the parts of the transmitter keep of a run.
-- Code: a row of levels, and one frame.
use Rattle.std.specs.Prelude.{◌≡◌, ◌<◌, ◌≤◌, ℕ, ◌+◌, ◌-◌, ◌*◌, Bool, true, List, ◌++◌, length, replicate, drop}
use Rattle.link_params.specs.declared.fields.Params.{Params}
use Rattle.link_params.specs.Numbers.{octets_per_tick}
use Rattle.sample_map.specs.Frames.{frame_of}
use Rattle.scenario.specs.Plans.{Plan, source_frame}

-- a SYNC~ with this delay took these levels, one after each tick; what it keeps is what will be
-- seen next, the first one first
pub record HasSynced (now : List Bool) (delay : ℕ) (lows : List Bool) : Type 0 where
  pub waits : now ≡ drop (length lows) (replicate (delay + 1) true ++ lows)

-- how many frames began, how many a tick has where each has whole ones, else 0, and the octets of
-- the frame that began last (of frame 0 before the first), or of all those of a tick
pub record Fed : Type 0 where
  pub params : Params
  pub begun : ℕ
  pub frames : ℕ
  pub octets : List ℕ

-- n frames began; where a tick may have a part of a frame, the octets of the last one are there
pub record HasFed (now : Fed) (s : Plan) (n : ℕ) : Type 0 where
  pub same_params : now.params ≡ s.link.params
  pub count : now.begun ≡ n
  pub frame : now.frames ≡ 0 → now.octets ≡ frame_of s.link.params (source_frame s (n - 1))

-- a row with room for so many items of each frame of a tick, or for those of one frame
pub record HasRoom (frames each : ℕ) (items : List ℕ) : Type 0 where
  pub of_one : frames ≡ 0 → length items ≡ each
  pub of_all : 0 < frames → length items ≡ frames * each

-- the sizes of a feed: the octets of a frame and of a tick on a lane, the frames of a tick if each
-- has whole ones, else 0, and the words and octets of these
pub record HasFeedSizes (p : Params) (size per_tick frames : ℕ) (words octets : List ℕ)
    : Type 0 where
  pub size_is : size ≡ p.f
  pub some : 1 ≤ size
  pub most : size ≤ 256
  pub per_tick_is : per_tick ≡ octets_per_tick p
  pub few : per_tick ≤ 8
  pub whole : 0 < frames → frames * size ≡ per_tick
  pub words_are : HasRoom frames (p.m * p.s) words
  pub octets_are : HasRoom frames (p.l * p.f) octets
