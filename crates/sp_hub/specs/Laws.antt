-- What a legal history says, in words nearer to its subject.
use Rattle.std.specs.Prelude.{◌≡◌, ℕ, List, ◌∷◌, ◌++◌, length, Some, slice_get}
use Rattle.sp_hub.specs.declared.entry.HubEntry.{HubEntry}
use Rattle.sp_hub.specs.declared.entry.HubEntry.TheVariants.{Take}
use Rattle.sp_hub.specs.History.{posted, taken, IsLegal}

-- The n-th job that was taken is the n-th that was posted, which stands before it.
abbrev pub TakesFollowPosts : Type 0
TakesFollowPosts =
    (entries before after : List HubEntry) (seat ticket : ℕ) → IsLegal entries → entries ≡ before ++ Take seat ticket ∷ after
    → slice_get (posted before) (length (taken before)) ≡ Some ticket
