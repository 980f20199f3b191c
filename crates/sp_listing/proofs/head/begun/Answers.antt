use Rattle.sp_emit.proofs.Answering.{at_none, at_some, differs}
use Rattle.sp_listing.proofs.Heads as h
use Rattle.sp_listing.proofs.head.begun.Goals as goal

pub returns-in_default : goal.returns-in_default
returns-in_default c = λ e is. h.no_window _ e is c.in_default.ensures

pub returns-in_default-short_labelled_at : goal.returns-in_default-short_labelled_at
returns-in_default-short_labelled_at c = λ e is. h.no_first _ e is _ _ c.in-Some.ensures c.in_default-short_labelled_at.ensures

pub returns-in_default-short_labelled_at-2 : goal.returns-in_default-short_labelled_at-2
returns-in_default-short_labelled_at-2 c = λ e is.
    h.no_last _ e is _ _ c.in-Some.ensures _ _ c.in-Some-short_labelled_at.ensures c.in_default-short_labelled_at-2.ensures

pub returns-in_default-2 : goal.returns-in_default-2
returns-in_default-2 c = λ e is.
    h.no_skipped _ e is _ _ c.in-Some.ensures _ _ c.in-Some-short_labelled_at.ensures _ _ c.in-Some-short_labelled_at-2.ensures (at_none _ _ _ c.in_default-2.is c.in_ok-skipped.ensures)

pub returns-in_default-3 : goal.returns-in_default-3
returns-in_default-3 c = λ e is.
    h.no_used _ e is _ _ c.in-Some.ensures _ _ c.in-Some-short_labelled_at.ensures _ _ c.in-Some-short_labelled_at-2.ensures
    _ _ (at_some _ _ _ _ c.in-Some-2.is c.in_ok-skipped.ensures) (at_none _ _ _ c.in_default-3.is c.in_ok-used.ensures)

pub returns-then-eq : goal.returns-then-eq
returns-then-eq c =
    h.head_read _ _ _ _ _ _ _ c.in-Some.ensures c.in-Some-short_labelled_at.ensures c.in-Some-short_labelled_at-2.ensures (at_some _ _ _ _ c.in-Some-2.is c.in_ok-skipped.ensures)
    (at_some _ _ _ _ c.in-Some-3.is c.in_ok-used.ensures) (h.equals _ _ _ _ c.eq.ensures c.if-eq.true c.as_slice.ensures) c.new.ensures.items

pub returns : goal.returns
returns c = λ e is.
    h.no_end _ e is _ _ c.in-Some.ensures _ _ c.in-Some-short_labelled_at.ensures _ _ c.in-Some-short_labelled_at-2.ensures
    _ _ (at_some _ _ _ _ c.in-Some-2.is c.in_ok-skipped.ensures) _ _ (at_some _ _ _ _ c.in-Some-3.is c.in_ok-used.ensures) (differs _ _ _ _ c.eq.ensures c.if-eq.false c.as_slice.ensures)
