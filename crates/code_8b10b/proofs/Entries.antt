-- The tables, computed whole against the definitions.
use Rattle.std.proofs.Common.{◌≡◌, ℕ, ◌+◌, ◌<◌, slice_index, option_map, refl}
use Rattle.code_8b10b.specs.declared.character.Rd.TheVariants.{Minus, Plus}
use Rattle.code_8b10b.specs.declared.character.Char.TheVariants.{Data, Control}
use Rattle.code_8b10b.specs.declared.tables.TheConstants.{READINGS_MINUS, READINGS_PLUS, SPELLINGS_MINUS, SPELLINGS_PLUS}
use Rattle.code_8b10b.specs.Code.{after, spelling, data_spelling, after_six, after_four, sixes, fours, four_of_seven, controls}
use Rattle.code_8b10b.specs.kept.Entries.{spelled_by, char_in, reading_in, disparity_in}
use Rattle.code_8b10b.specs.Reads.{reading, char_at, data_at, control_at, place_in}
use Rattle.code_8b10b.proofs.Tabulated.{tabulated, same_below}

computed-readings_minus : tabulated (λ w. reading_in (slice_index READINGS_MINUS w)) 1024 ≡ tabulated (reading Minus) 1024
unfolding reading_in char_in reading char_at data_at control_at place_in after_six sixes fours four_of_seven controls
computed-readings_minus = refl

computed-readings_plus : tabulated (λ w. reading_in (slice_index READINGS_PLUS w)) 1024 ≡ tabulated (reading Plus) 1024
unfolding reading_in char_in reading char_at data_at control_at place_in after_six sixes fours four_of_seven controls
computed-readings_plus = refl

computed-disparities_minus : tabulated (λ w. disparity_in (slice_index READINGS_MINUS w)) 1024 ≡ tabulated (after Minus) 1024
unfolding disparity_in after after_six after_four
computed-disparities_minus = refl

computed-disparities_plus : tabulated (λ w. disparity_in (slice_index READINGS_PLUS w)) 1024 ≡ tabulated (after Plus) 1024
unfolding disparity_in after after_six after_four
computed-disparities_plus = refl

pub readings_minus : (w : ℕ) → w < 1024 → reading_in (slice_index READINGS_MINUS w) ≡ reading Minus w
readings_minus w lt = same_below (λ v. reading_in (slice_index READINGS_MINUS v)) (reading Minus) 1024 w computed-readings_minus lt

pub readings_plus : (w : ℕ) → w < 1024 → reading_in (slice_index READINGS_PLUS w) ≡ reading Plus w
readings_plus w lt = same_below (λ v. reading_in (slice_index READINGS_PLUS v)) (reading Plus) 1024 w computed-readings_plus lt

pub disparities_minus : (w : ℕ) → w < 1024 → disparity_in (slice_index READINGS_MINUS w) ≡ after Minus w
disparities_minus w lt = same_below (λ v. disparity_in (slice_index READINGS_MINUS v)) (after Minus) 1024 w computed-disparities_minus lt

pub disparities_plus : (w : ℕ) → w < 1024 → disparity_in (slice_index READINGS_PLUS w) ≡ after Plus w
disparities_plus w lt = same_below (λ v. disparity_in (slice_index READINGS_PLUS v)) (after Plus) 1024 w computed-disparities_plus lt

-- ---- spellings

computed-data_minus : tabulated (λ o. spelled_by (slice_index SPELLINGS_MINUS o)) 256 ≡ tabulated (λ o. option_map (λ w. (w, after Minus w)) (spelling Minus (Data o))) 256
unfolding spelled_by spelling data_spelling after after_six after_four sixes fours four_of_seven
computed-data_minus = refl

computed-data_plus : tabulated (λ o. spelled_by (slice_index SPELLINGS_PLUS o)) 256 ≡ tabulated (λ o. option_map (λ w. (w, after Plus w)) (spelling Plus (Data o))) 256
unfolding spelled_by spelling data_spelling after after_six after_four sixes fours four_of_seven
computed-data_plus = refl

computed-controls_minus : tabulated (λ o. spelled_by (slice_index SPELLINGS_MINUS (256 + o))) 256 ≡ tabulated (λ o. option_map (λ w. (w, after Minus w)) (spelling Minus (Control o))) 256
unfolding spelled_by spelling after after_six after_four controls
computed-controls_minus = refl

computed-controls_plus : tabulated (λ o. spelled_by (slice_index SPELLINGS_PLUS (256 + o))) 256 ≡ tabulated (λ o. option_map (λ w. (w, after Plus w)) (spelling Plus (Control o))) 256
unfolding spelled_by spelling after after_six after_four controls
computed-controls_plus = refl

pub data_minus : (o : ℕ) → o < 256 → spelled_by (slice_index SPELLINGS_MINUS o) ≡ option_map (λ w. (w, after Minus w)) (spelling Minus (Data o))
data_minus o lt = same_below (λ p. spelled_by (slice_index SPELLINGS_MINUS p)) (λ p. option_map (λ w. (w, after Minus w)) (spelling Minus (Data p))) 256 o computed-data_minus lt

pub data_plus : (o : ℕ) → o < 256 → spelled_by (slice_index SPELLINGS_PLUS o) ≡ option_map (λ w. (w, after Plus w)) (spelling Plus (Data o))
data_plus o lt = same_below (λ p. spelled_by (slice_index SPELLINGS_PLUS p)) (λ p. option_map (λ w. (w, after Plus w)) (spelling Plus (Data p))) 256 o computed-data_plus lt

pub controls_minus : (o : ℕ) → o < 256 → spelled_by (slice_index SPELLINGS_MINUS (256 + o)) ≡ option_map (λ w. (w, after Minus w)) (spelling Minus (Control o))
controls_minus o lt = same_below (λ p. spelled_by (slice_index SPELLINGS_MINUS (256 + p))) (λ p. option_map (λ w. (w, after Minus w)) (spelling Minus (Control p))) 256 o computed-controls_minus lt

pub controls_plus : (o : ℕ) → o < 256 → spelled_by (slice_index SPELLINGS_PLUS (256 + o)) ≡ option_map (λ w. (w, after Plus w)) (spelling Plus (Control o))
controls_plus o lt = same_below (λ p. spelled_by (slice_index SPELLINGS_PLUS (256 + p))) (λ p. option_map (λ w. (w, after Plus w)) (spelling Plus (Control p))) 256 o computed-controls_plus lt
