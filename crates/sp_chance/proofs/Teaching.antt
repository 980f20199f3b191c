-- What a predictor was taught, one thing behind another.
use Rattle.std.proofs.Common.{ℕ, List, [], ◌++◌, sym, subst, append_assoc}
use Rattle.std.proofs.lemmas.List.{append-nil}
use Rattle.sp_chance.specs.Taught.{TaughtOn}

-- nothing yet
pub taught_none : (taught : List (ℕ × ℕ) → Type 0) → TaughtOn taught [] taught
taught_none taught earlier was = subst taught (sym (append-nil earlier)) was

-- more behind it
pub taught_then : (first then last : List (ℕ × ℕ) → Type 0) (some more : List (ℕ × ℕ)) → TaughtOn first some then → TaughtOn then more last → TaughtOn first (some ++ more) last
taught_then first then last some more one other earlier was = subst last (append_assoc earlier some more) (other (earlier ++ some) (one earlier was))
