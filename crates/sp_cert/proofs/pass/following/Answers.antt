use Rattle.std.proofs.Common.{◌≡◌, ◌+◌, List, length, map, take, drop, ◌++◌, Some, sym, subst, arith, rules}
use Rattle.std.specs.Prelude.{slice_get}
use Rattle.std.proofs.lemmas.List.{take_at, length-map}
use Rattle.sp_listing.specs.Listing.{Entry, seen}
use Rattle.sp_cert.specs.Checking.{FollowsOn, IsFollowing, FollowTo}
use Rattle.sp_cert.specs.Flags.{AreFlags}
use Rattle.sp_cert.specs.Proofs.{matches_of, used_of}
use Rattle.sp_cert.proofs.Passing.{Passed, seen_at, first_are, passed_more, passed_all}
use Rattle.sp_cert.proofs.pass.following.Goals as goal

pub loop-place-preserved : goal.loop-place-preserved
loop-place-preserved c =
    let proofs = c.args.proofs.now in
    let entries = map seen proofs in
    let i = c.loop-place.place in
    let now = c.loop-place.invariant in
    let one = c.index-proofs-place.result in
    let flags = c.loop-place.consumed.items in
    let flags' = c.set_flags.new.flags in
    let is : slice_get entries i ≡ Some (seen one) = seen_at proofs i one (omega arith) c.index-proofs-place.is in
    let before : List Entry = take i entries in
    let count = first_are entries i (seen one) is in
    let followed : IsFollowing before (seen one) c.in_ok-last.field-0 =
    c.in_ok-last.ensures before (subst (AreFlags 1 (used_of before)) (sym c.deref.ensures.value) now.flags_are) (sym count) now.matches_are in
    let own : FollowsOn before (seen one) × (c.in-Some.last ≡ length (matches_of before) + length one.matches.items) = subst (IsFollowing before (seen one)) c.in-Some.is followed in
    let size : length flags' ≡ length flags = search rules in
    let whole : take c.loop-place.consumed.len (flags' ++ drop (length flags') flags) ≡ flags' = take_at flags' (drop (length flags') flags) c.loop-place.consumed.len (search (rules, size)) in
    let set : AreFlags 1 (used_of before ++ one.used.list) flags' =
    subst (λ l. AreFlags 1 (used_of before ++ l) flags') c.list.ensures.list (c.set_flags.ensures (used_of before) (subst (AreFlags 1 (used_of before)) (sym c.deref_mut.ensures.value) now.flags_are)) in
    subst (λ l. Passed entries (i + 1) l c.args.events c.in-Some.last) (sym whole) (passed_more entries i flags c.args.events c.loop-place.matches now (seen one) flags' c.in-Some.last is own.0 own.1 set size)

pub returns : goal.returns
returns c =
    let entries = map seen c.args.proofs.now in
    let size : length entries ≡ length c.args.proofs.now = length-map c.args.proofs.now seen in
    let last = passed_all entries c.loop-place.place c.loop-place.consumed.items c.args.events c.loop-place.matches c.loop-place.invariant (omega arith) in
    subst (FollowTo entries) size last
