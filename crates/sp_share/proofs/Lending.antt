-- A matcher of which there is no handle is its own.
use Rattle.std.proofs.Common.{◌≡◌, false, Option, Some, None, refl}
use Rattle.std.specs.Option.{is_some}
use Rattle.std.specs.declared.sync.Arc.{Arc}
use Rattle.sp_match.specs.public.Matching.{Matching}
use Rattle.sp_share.specs.Sharing.{held}

pub own_is : {Z : Type 0} (m : Matching) (handle : Option (Arc Matching Z)) → is_some handle ≡ false → held m handle ≡ m
own_is m None none = refl
own_is m (Some handle) none = absurd (cc none)
