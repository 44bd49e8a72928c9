-- The comma hunt (JESD204B.01 clause 5.3.3.1, code group synchronization): forty bits that spell
-- /K/ four times. Bits, not characters, are the places.
-- Code: shifts and compares of the last bits, for ten phases.
use Rattle.std.specs.Prelude.{◌≡◌, ℕ, suc, ◌+◌, ◌-◌, Bool, true, false, ◌||◌, if◌then◌else◌, List, [], ◌∷◌, length, take, drop, Option, Some, None, option_map}
use Rattle.std.specs.List.{flat_map}
use Rattle.jesd_base.specs.Bits.{bits, value}
use Rattle.code_8b10b.specs.declared.character.Rd.TheVariants.{Minus}
use Rattle.code_8b10b.specs.declared.hunt.Lock.{Lock}
use Rattle.code_8b10b.specs.Code.{after}

-- /K/ four times, from negative and from positive disparity
unfoldable pub commas : List Bool
commas = flat_map (bits 10) (0x0FA ∷ 0x305 ∷ 0x0FA ∷ 0x305 ∷ [])

unfoldable pub other_commas : List Bool
other_commas = flat_map (bits 10) (0x305 ∷ 0x0FA ∷ 0x305 ∷ 0x0FA ∷ [])

-- the list begins with these bits
unfoldable pub begins : List Bool → List Bool → Bool
begins [] bs = true
begins (x ∷ xs) [] = false
begins (true ∷ xs) (true ∷ bs) = begins xs bs
begins (false ∷ xs) (false ∷ bs) = begins xs bs
begins (true ∷ xs) (false ∷ bs) = false
begins (false ∷ xs) (true ∷ bs) = false

-- the list begins with the forty bits of a lock
abbrev pub begins_lock : List Bool → Bool
begins_lock bs = begins commas bs || begins other_commas bs

-- the forty bits stand at place x
unfoldable pub stands_at : List Bool → ℕ → Bool
stands_at bs x = begins_lock (drop x bs)

-- the least place at which they stand, where the first bit of the list has place x
unfoldable pub least_place : ℕ → List Bool → Option ℕ
least_place x [] = None
least_place x (b ∷ bs) = let later = least_place (suc x) bs in if begins_lock (b ∷ bs) then Some x else later

-- what a hunt answers once these bits have come since it began, where it answered nothing before: how many bits come after
-- the forty, and the disparity after the fourth /K/
unfoldable pub found : List Bool → Option Lock
found bs = option_map (λ x. record { rest = length bs - (x + 40); rd = after Minus (value (take 10 (drop (x + 30) bs))) }) (least_place 0 bs)

-- a hunt has taken these bits since it began and has answered nothing yet; it is seen as the last thirty-nine of them
pub record HasHunted (now taken : List Bool) : Type 0 where
  pub last : now ≡ drop (length taken - 39) taken
  pub nothing : found taken ≡ None
