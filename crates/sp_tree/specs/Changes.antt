-- What each call does to one version of a tree: it stays, perhaps changed, or it goes.
use Rattle.std.specs.Prelude.{ℕ, Option, Some, None, ◌==◌, if◌then◌else◌}
use Rattle.sp_base.specs.Numbers.{with_number}
use Rattle.sp_group.specs.declared.outcome.Outcome.{Outcome}
pub use Rattle.sp_group.specs.Deciding.{others, foresaw}
use Rattle.sp_group.specs.Family.{is_parent}
use Rattle.sp_tree.specs.Version.{Version}

-- a child of the owner of a decided group: it stays where its label foresaw the outcome, and its label loses the group
abbrev pub child_decided : ℕ → Outcome → Version → Option Version
child_decided run outcome v = if foresaw run outcome v.label then Some (record v { label = others run v.label }) else None

-- a group of the owner is decided: it is open no more, and each child stays or goes
abbrev pub decided : ℕ → ℕ → Outcome → Version → Option Version
decided owner run outcome v =
    if v.id == owner then Some (record v { groups = others run v.groups })
    else if is_parent owner v.parent then child_decided run outcome v
    else Some v

-- all but one version
abbrev pub but : ℕ → Version → Option Version
but id v = if v.id == id then None else Some v

-- the root goes, and its children lose their parent
abbrev pub promoted : ℕ → Version → Option Version
promoted root v =
    if v.id == root then None
    else if is_parent root v.parent then Some (record v { parent = None })
    else Some v

-- a version with one open group more
abbrev pub with_run : ℕ → Version → Version
with_run run v = record v { groups = with_number v.groups run }
