-- What an 8b/10b transmitter lane sends for all that it was handed since its reset (JESD204B.01
-- clauses 5.2 scrambling, 5.3.1 8b/10b, 5.3.3.1 code group synchronization, 5.3.3.4 character
-- replacement and 5.3.3.5 initial lane alignment).
-- Code: one character a tick, on the disparity, the scrambler's last bits and the last octet of a
-- frame.
use Rattle.std.specs.Prelude.{ℕ, zero, suc, ◌-◌, Bool, false, if◌then◌else◌, List, [], ◌∷◌, ◌++◌, map, length, take, drop, unwrap_or}
use Rattle.std.specs.List.{flat_map}
use Rattle.jesd_base.specs.Bits.{bits, value}
use Rattle.link_params.specs.declared.fields.Params.{Params}
use Rattle.link_params.specs.declared.orders.TxOrder.{TxOrder}
use Rattle.link_params.specs.declared.orders.TxOrder.TheVariants.{Comma, Ilas, Data as DataOrder, Silent, Block}
use Rattle.link_params.specs.Lanes.{Handed}
use Rattle.code_8b10b.specs.declared.character.Rd.{Rd}
use Rattle.code_8b10b.specs.declared.character.Rd.TheVariants.{Minus}
use Rattle.code_8b10b.specs.declared.character.Char.{Char}
use Rattle.code_8b10b.specs.declared.character.Char.TheVariants.{Control}
use Rattle.code_8b10b.specs.Code.{spelling, after}
use Rattle.lane_scramble.specs.Scrambling.{scrambled15}
use Rattle.char_replace.specs.Replacement.{char_due}
use Rattle.ilas.specs.Sequence.{ilas_char}

-- ---- data

-- all whole octets of a list of bits
unfoldable pub octets_of : ℕ → List Bool → List ℕ
octets_of zero bs = []
octets_of (suc n) bs = value (take 8 bs) ∷ octets_of n (drop 8 bs)

-- octets, scrambled from the first on
abbrev pub scrambled_octets : List ℕ → List ℕ
scrambled_octets octets = octets_of (length octets) (scrambled15 (flat_map (bits 8) octets))

-- the octets that go into characters: scrambled where the link is
abbrev pub coded_octets : Params → List ℕ → List ℕ
coded_octets p octets = if p.scr then scrambled_octets octets else octets

-- the first n characters of these coded octets, each the one that is due
unfoldable pub replaced : Params → List ℕ → ℕ → List Char
replaced p coded zero = []
replaced p coded (suc n) = replaced p coded n ++ char_due p coded (replaced p coded n) n ∷ []

-- the character of the last of these data octets
unfoldable pub data_char : Params → List ℕ → Char
data_char p octets = let n = length octets - 1 in let coded = coded_octets p octets in char_due p coded (replaced p coded n) n

-- ---- all that was handed in

-- the first octet after the alignment sequence
abbrev pub is_first_data : TxOrder → Bool
is_first_data (DataOrder x first) = first
is_first_data Comma = false
is_first_data (Ilas x) = false
is_first_data Silent = false
is_first_data (Block x first) = false

-- the octets so far and that of the next tick: a first data octet begins anew, and each other tick adds its octet. The list is read
-- only while data goes on.
abbrev pub going_on : List ℕ → Handed → List ℕ
going_on octets h = if is_first_data h.order then h.octets ∷ [] else octets ++ h.octets ∷ []

-- the data octets from the last first one on
unfoldable pub data_octets : List ℕ → List Handed → List ℕ
data_octets octets [] = octets
data_octets octets (h ∷ hs) = data_octets (going_on octets h) hs

-- the character of a tick, where these are all the ticks up to it
abbrev pub char_of : Params → ℕ → List Handed → TxOrder → Char
char_of p lane handed Comma = Control 0xBC
char_of p lane handed (Ilas x) = ilas_char p lane x
char_of p lane handed (DataOrder x first) = data_char p (data_octets [] handed)
char_of p lane handed Silent = Control 0xBC
char_of p lane handed (Block x first) = Control 0xBC

-- the characters of all ticks; before: the ticks that came before these
unfoldable pub chars_after : Params → ℕ → List Handed → List Handed → List Char
chars_after p lane before [] = []
chars_after p lane before (h ∷ hs) = char_of p lane (before ++ h ∷ []) h.order ∷ chars_after p lane (before ++ h ∷ []) hs

-- the words that spell characters, in one chain of disparities
unfoldable pub spelled : Rd → List Char → List ℕ
spelled rd [] = []
spelled rd (c ∷ cs) = let w = unwrap_or (spelling rd c) 0 in w ∷ spelled (after rd w) cs

-- the words of a lane, one a tick, from negative disparity on
unfoldable pub sent_words : Params → ℕ → List Handed → List ℕ
sent_words p lane handed = spelled Minus (chars_after p lane [] handed)

-- the bits of each word
abbrev pub sent_b : Params → ℕ → List Handed → List (List Bool)
sent_b p lane handed = map (bits 10) (sent_words p lane handed)
