-- The loop that changes all versions keeps what is below each.
use Rattle.std.proofs.Common.{◌≡◌, ℕ, ◌-◌, ◌<◌, Bool, true, false, List, length, remove, Option, sym, subst, arith}
use Rattle.std.proofs.lemmas.List.{length-set}
use Rattle.sp_store.specs.Stored.{Stored}
use Rattle.sp_tree.specs.declared.version.Version.{Version as Branch}
use Rattle.sp_tree.specs.Version.{Version}
use Rattle.sp_tree.specs.Branches.{AreFalling, AreReshaped, kept_shape}
use Rattle.sp_tree.specs.Grown.{Entry}
use Rattle.sp_tree.specs.Joined.{IsKept}
use Rattle.sp_tree.proofs.Pruned.{At}
use Rattle.sp_tree.proofs.Searched.{falling, falls_set}
use Rattle.sp_tree.proofs.Seen.{reshaped_none, reshaped_set, reshaped_removed}

pub shapes_none : (vs : List Branch) → AreReshaped kept_shape vs vs
shapes_none vs = reshaped_none vs

module _ {V : Type 0} (first : ℕ) (rule : Version → Option Version) (i : ℕ) (start : List Branch) (was : List (Entry V)) (versions : List Branch) (values : Stored V) (more : first < i) (h : At first rule i was versions values)
    (before : AreReshaped kept_shape start versions) where
  inside : i - 1 < length versions
  inside = let w = h.within in omega arith

  one_set : (stays : Bool) → (now : List Branch) → IsKept rule (i - 1) versions now stays → AreReshaped kept_shape start now
  one_set stays now k =
      subst (AreReshaped kept_shape start) (sym k.1)
      (reshaped_set start versions (i - 1) k.0 (falling versions values h.both) inside k.2 k.4 before)

  pub shapes_kept : (now : List Branch) → IsKept rule (i - 1) versions now true → AreReshaped kept_shape start now
  shapes_kept now k = one_set true now k

  pub shapes_gone : (now left : List Branch) → IsKept rule (i - 1) versions now false → left ≡ remove now (i - 1) → AreReshaped kept_shape start left
  shapes_gone now left k removed =
      let fall = falling versions values h.both in
      let falls : AreFalling now = subst AreFalling (sym k.1) (falls_set versions (i - 1) k.0 fall inside k.2) in
      let long : i - 1 < length now = subst (λ (l : List Branch). i - 1 < length l) (sym k.1) (let n = length-set versions (i - 1) k.0 in let w = inside in omega arith) in
      subst (AreReshaped kept_shape start) (sym removed) (reshaped_removed start now (i - 1) falls long (one_set false now k))
