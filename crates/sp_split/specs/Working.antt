-- What a driver's work comes to.
use Rattle.std.specs.Prelude.{◌≡◌, ℕ, IfOk, OnOk, OnErr}
use Rattle.std.specs.declared.result.Result.{Result}
use Rattle.std.specs.Global.{Vec}
use Rattle.sp_core.specs.Running.{Running}
use Rattle.sp_core.specs.declared.emitted.Emitted.{Emitted}
use Rattle.sp_splitter.specs.Stages.{matches_of}
use Rattle.sp_split.specs.Stages.{Advanced, IsAdvanced}

-- A driver worked on what it was fed, as far as it could, and answered what each window that is finished emits, in order. After want of memory
-- it is only to be looked at, and some of what was emitted may be lost. `ready` says where it may be fed, and work, `came` how it came to where
-- it stands, and `relieved` what may have become of its predictors.
pub record HasWorked {D T E : Type 0} (core : D → Running) (instances batch : D → ℕ) (team : D → T) (relieved : T → T → Type 0) (ready came : D → Type 0) (old new : D) (answer : Result (Vec Emitted) E) : Type 0 where
  pub done : IfOk answer (λ finished. Advanced (core old) (core new) (matches_of finished.items))
  pub short : OnErr answer (IsAdvanced (core old) (core new))
  pub handed : relieved (team old) (team new)
  pub goes_on : OnOk answer (ready new)
  pub stands : came new
  pub same : (instances new ≡ instances old) × (batch new ≡ batch old)
