-- Whether bytes are UTF-8.
use Rattle.std.proofs.Common.{◌≡◌, ℕ, inl, inr, true, List, Option, Some, Result, Ok, Err, sym, ap, ◌∙◌}
use Rattle.std.specs.Prelude.{is_ok, option_map, IsUtf8, MatchResult}
use Rattle.std.specs.Result.{result_ok}
use Rattle.std.specs.Str.{is_utf8}
use Rattle.std.proofs.lemmas.Bool.{cases_Bool}
use Rattle.std.proofs.lemmas.Str.{IsUtf8-from_is_utf8, is_utf8-from_IsUtf8}

-- a call that succeeds where bytes are UTF-8, and else fails, is the test
pub is_text_is : {T E : Type 0} (Says : T → Type 0) (Told : E → Type 0) (bytes : List ℕ) (r : Result T E) → MatchResult r (λ s. Says s × IsUtf8 bytes) (λ e. ¬ (IsUtf8 bytes) × Told e) → is_ok r ≡ is_utf8 bytes
is_text_is Says Told bytes (Ok s) says = sym (is_utf8-from_IsUtf8 bytes says.1)
is_text_is Says Told bytes (Err e) says = elim (cases_Bool (is_utf8 bytes)) [
  | inl same ↦ absurd (says.0 (IsUtf8-from_is_utf8 bytes same))
  | inr other ↦ sym other
]

-- where they are UTF-8, it gives them
pub text_read : {T E : Type 0} (Told : E → Type 0) (shown : T → List ℕ) (bytes : List ℕ) (r : Result T E) (read : Option T) → read ≡ result_ok r → is_utf8 bytes ≡ true → MatchResult r (λ s. (shown s ≡ bytes) × IsUtf8 bytes) (λ e. ¬ (IsUtf8 bytes) × Told e)
    → option_map shown read ≡ Some bytes
text_read Told shown bytes (Ok s) read is utf8 says = ap (option_map shown) is ∙ ap Some says.0
text_read Told shown bytes (Err e) read is utf8 says = absurd (says.0 (IsUtf8-from_is_utf8 bytes utf8))
