-- What a call over C answers and leaves: document 01's refusal number, 0 where it is done, and the bytes of the slice that it may write. Of several refusals the
-- smallest is answered, and a refused call writes nothing. What the bytes mean is the crate layout's.
use Rattle.std.specs.Prelude.{ℕ, true, false, cond, List, ◌∷◌, eqb, leb, drop, Float, Result, Option, Ok, Err, Some, None}
use Rattle.types.specs.Codes.{method_of}
use Rattle.types.specs.Refusals.{number, Answer}
use Rattle.types.specs.declared.Refusal.TheVariants.{Range}
use Rattle.types.specs.declared.TransformMethod.{TransformMethod}
use Rattle.deviation.specs.declared.Deviation.{Deviation}
use Rattle.basicthresholder.specs.Grades.{threshold_and_grade, threshold_and_grade_with_factor, primary_threshold_and_grade}
use Rattle.basicthresholder.specs.Updates.{new_adjustible, update_threshold, update_primary, update_both, update, with_z_factor, with_lower_threshold, with_absolute_threshold, with_initial_threshold, set_score_differencing}
use Rattle.basicthresholder.specs.declared.BasicThresholder.{BasicThresholder}
use Rattle.basicthresholder.specs.declared.Graded.{Graded}
use Rattle.layout.specs.Places.{deviation_length, thresholder_length}
use Rattle.layout.specs.Numbers.{f64_bytes, flag_byte}
use Rattle.layout.specs.States.{encode_deviation, encode_thresholder, encode_graded, read_thresholder}
use Rattle.layout.specs.Left.{Left, left, put_into}
use Rattle.types.specs.declared.Refusal.{Refusal}
use Rattle.types.specs.declared.Updated.{Updated}

-- What a change leaves of the slice xs of n bytes that was read: ys, unless the change is refused.
unfoldable pub stored : Answer → ℕ → List ℕ → List ℕ → Left
stored (Ok _) n xs ys = put_into n xs ys
stored (Err why) n xs ys = left (number why) xs

-- ---- a stored statistic.

-- A new one.
unfoldable pub deviation_made : Result Deviation Refusal → List ℕ → Left
deviation_made (Ok d) out = put_into deviation_length out (encode_deviation d)
deviation_made (Err why) out = left (number why) out

-- Changed in place by f.
abbrev pub deviation_stored : Updated Deviation → List ℕ → Left
deviation_stored u xs = stored u.answer deviation_length xs (encode_deviation u.state)

unfoldable pub deviation_changed : (Deviation → Updated Deviation) → Result Deviation Refusal → List ℕ → Left
deviation_changed f (Ok d) xs = deviation_stored (f d) xs
deviation_changed f (Err why) xs = left (number why) xs

-- A change that is never refused.
abbrev pub deviation_done : Deviation → Updated Deviation
deviation_done d = record { answer = Ok tt; state = d }

-- Read by f into a slice of n bytes.
unfoldable pub deviation_read : (Deviation → List ℕ) → ℕ → Result Deviation Refusal → List ℕ → Left
deviation_read f n (Ok d) out = put_into n out (f d)
deviation_read f n (Err why) out = left (number why) out

-- What a statistic says of its scores, over the slice `out` of 9 bytes: a yes and the number; or a no, and what stands behind it stays.
unfoldable pub measured_over : Option Float → List ℕ → List ℕ
measured_over None out = flag_byte false ∷ drop 1 out
measured_over (Some x) out = flag_byte true ∷ f64_bytes x

-- ---- a stored thresholder.

-- A new one: 1 for its discount, then 2 for the yes/no byte `adjust`, then 3.
unfoldable pub thresholder_made : Result BasicThresholder Refusal → ℕ → List ℕ → Left
thresholder_made (Ok s) adjust out = cond (leb adjust 1) (put_into thresholder_length out (encode_thresholder s)) (left (number Range) out)
thresholder_made (Err why) adjust out = left (number why) out

-- Changed in place by f.
abbrev pub thresholder_stored : Updated BasicThresholder → List ℕ → Left
thresholder_stored u xs = stored u.answer thresholder_length xs (encode_thresholder u.state)

unfoldable pub thresholder_changed : (BasicThresholder → Updated BasicThresholder) → Result BasicThresholder Refusal → List ℕ → Left
thresholder_changed f (Ok s) xs = thresholder_stored (f s) xs
thresholder_changed f (Err why) xs = left (number why) xs

abbrev pub thresholder_done : BasicThresholder → Updated BasicThresholder
thresholder_done s = record { answer = Ok tt; state = s }

-- Read by f into a slice of n bytes.
unfoldable pub thresholder_read : (BasicThresholder → List ℕ) → ℕ → Result BasicThresholder Refusal → List ℕ → Left
thresholder_read f n (Ok s) out = put_into n out (f s)
thresholder_read f n (Err why) out = left (number why) out

-- Graded by f with the method of a code; 2 for a code outside its list.
unfoldable pub graded_by : (BasicThresholder → TransformMethod → Graded) → Result TransformMethod Refusal → Result BasicThresholder Refusal → List ℕ → Left
graded_by f (Ok m) t out = thresholder_read (λ s. encode_graded (f s m)) 8 t out
graded_by f (Err why) t out = left (number why) out

-- ---- the calls on a stored thresholder, each by what it takes; the slice that it writes comes last.

-- A construction, the yes/no byte behind the discount.
abbrev pub new_into : Float → ℕ → List ℕ → Left
new_into discount adjust out = thresholder_made (new_adjustible discount (eqb adjust 1)) adjust out

abbrev pub changed_in : (BasicThresholder → Updated BasicThresholder) → List ℕ → Left
changed_in f xs = thresholder_changed f (read_thresholder xs) xs

abbrev pub update_threshold_in : Float → List ℕ → Left
update_threshold_in score = changed_in (λ s. update_threshold s score)

abbrev pub update_primary_in : Float → List ℕ → Left
update_primary_in score = changed_in (λ s. update_primary s score)

abbrev pub update_both_in : Float → Float → List ℕ → Left
update_both_in primary secondary = changed_in (λ s. update_both s primary secondary)

abbrev pub update_in : Float → Float → Float → List ℕ → Left
update_in primary secondary last_score = changed_in (λ s. update s primary secondary last_score)

abbrev pub set_score_differencing_in : Float → List ℕ → Left
set_score_differencing_in horizon = changed_in (λ s. set_score_differencing s horizon)

abbrev pub set_z_factor_in : Float → List ℕ → Left
set_z_factor_in factor = changed_in (λ s. thresholder_done (with_z_factor s factor))

abbrev pub set_lower_threshold_in : Float → List ℕ → Left
set_lower_threshold_in lower = changed_in (λ s. thresholder_done (with_lower_threshold s lower))

abbrev pub set_absolute_threshold_in : Float → List ℕ → Left
set_absolute_threshold_in value = changed_in (λ s. thresholder_done (with_absolute_threshold s value))

abbrev pub set_initial_threshold_in : Float → List ℕ → Left
set_initial_threshold_in initial = changed_in (λ s. thresholder_done (with_initial_threshold s initial))

-- Threshold and grade of a score, the state's bytes before the slice that takes them.
abbrev pub primary_threshold_and_grade_into : Float → List ℕ → List ℕ → Left
primary_threshold_and_grade_into score xs out = thresholder_read (λ s. encode_graded (primary_threshold_and_grade s score)) 8 (read_thresholder xs) out

abbrev pub threshold_and_grade_into : Float → (method shingle_size : ℕ) → List ℕ → List ℕ → Left
threshold_and_grade_into score method shingle_size xs out = graded_by (λ s m. threshold_and_grade s score m shingle_size) (method_of method) (read_thresholder xs) out

abbrev pub threshold_and_grade_with_factor_into : Float → Float → (method shingle_size : ℕ) → List ℕ → List ℕ → Left
threshold_and_grade_with_factor_into score factor method shingle_size xs out = graded_by (λ s m. threshold_and_grade_with_factor s score factor m shingle_size) (method_of method) (read_thresholder xs) out
