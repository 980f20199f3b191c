use Rattle.std.proofs.Common.{◌≡◌, ℕ, subst, sym, ◌∙◌, Option, List}
use Rattle.sp_query.specs.declared.tree.Tree.{Tree}
use Rattle.sp_query.specs.declared.query.Ident.{Ident}
use Rattle.sp_query.specs.Phrase.{Both, Optional}
use Rattle.sp_query.specs.Grammar as g
use Rattle.sp_query.specs.Same.{Pairwise, SameTime, SameColumn, SameElement, SameOpening, SameConsume, SameLength, Same}
use Rattle.sp_syntax.specs.Printing.{Prints, Equal, SameItems}
use Rattle.sp_syntax.proofs.Adding.{on_ok, adds_map, adds_both}
use Rattle.sp_syntax.proofs.Speaking.{Paired, prints_both}
use Rattle.sp_syntax.proofs.Clauses as l
use Rattle.sp_syntax.proofs.printing.clauses.Goals as goal

pub returns : goal.returns
returns c =
    let query = c.args.query.now in
    on_ok _ _ _ (λ e7.
    let e6 = adds_both _ _ _ _ _ (λ z. (room : ℕ) → Prints (Both g.Policy g.Consume) (Paired Equal SameConsume) (query.select, query.consume) z) c.in_ok-policy.ensures e7 (λ x y p r room. prints_both g.Policy g.Consume Equal SameConsume (query.select, query.consume) x y p r) in
    let e5 = adds_both _ _ _ _ _ (λ z. (room : ℕ) → Prints (Both (g.Opening room) (Both g.Policy g.Consume)) (Paired SameOpening (Paired Equal SameConsume)) (query.opening, (query.select, query.consume)) z) c.in_ok-opening.ensures e6 (λ x y p r room. prints_both (g.Opening room) (Both g.Policy g.Consume) SameOpening (Paired Equal SameConsume) (query.opening, (query.select, query.consume)) x y (p room) (r room)) in
    let e4 = adds_both _ _ _ _ _ (λ z. (room : ℕ) → Prints (Both g.Within (Both (g.Opening room) (Both g.Policy g.Consume))) (Paired SameLength (Paired SameOpening (Paired Equal SameConsume))) (query.length, (query.opening, (query.select, query.consume))) z) c.in_ok-within.ensures e5 (λ x y p r room. prints_both g.Within (Both (g.Opening room) (Both g.Policy g.Consume)) SameLength (Paired SameOpening (Paired Equal SameConsume)) (query.length, (query.opening, (query.select, query.consume))) x y p (r room)) in
    let e3 = adds_both _ _ _ _ _ (λ z. (room : ℕ) (all : Option (List (Ident × Tree))) → g.items all ≡ query.defines → Prints (Both (Optional (g.Definitions room)) (Both g.Within (Both (g.Opening room) (Both g.Policy g.Consume)))) (Paired SameItems (Paired SameLength (Paired SameOpening (Paired Equal SameConsume)))) (all, (query.length, (query.opening, (query.select, query.consume)))) z) (adds_map _ _ _ (λ z. (room : ℕ) (all : Option (List (Ident × Tree))) → g.items all ≡ query.defines → Prints (Optional (g.Definitions room)) SameItems all z) (λ x p room all is. p room all (is ∙ sym c.as_slice-3.ensures)) c.in_ok-definitions.ensures) e4 (λ x y p r room all is. prints_both (Optional (g.Definitions room)) (Both g.Within (Both (g.Opening room) (Both g.Policy g.Consume))) SameItems (Paired SameLength (Paired SameOpening (Paired Equal SameConsume))) (all, (query.length, (query.opening, (query.select, query.consume)))) x y (p room all is) (r room)) in
    let e2 = adds_both _ _ _ _ _ (λ z. (room : ℕ) (all : Option (List (Ident × Tree))) → g.items all ≡ query.defines → Prints (Both g.Elements (Both (Optional (g.Definitions room)) (Both g.Within (Both (g.Opening room) (Both g.Policy g.Consume))))) (Paired (Pairwise SameElement) (Paired SameItems (Paired SameLength (Paired SameOpening (Paired Equal SameConsume))))) (query.elements, (all, (query.length, (query.opening, (query.select, query.consume))))) z) (adds_map _ _ _ (Prints g.Elements (Pairwise SameElement) query.elements) (λ x p. subst (λ z. Prints g.Elements (Pairwise SameElement) z x) c.as_slice-2.ensures p) c.in_ok-elements.ensures) e3 (λ x y p r room all is. prints_both g.Elements (Both (Optional (g.Definitions room)) (Both g.Within (Both (g.Opening room) (Both g.Policy g.Consume)))) (Pairwise SameElement) (Paired SameItems (Paired SameLength (Paired SameOpening (Paired Equal SameConsume)))) (query.elements, (all, (query.length, (query.opening, (query.select, query.consume))))) x y p (r room all is)) in
    let e1 = adds_both _ _ _ _ _ (λ z. (room : ℕ) (all : Option (List (Ident × Tree))) → g.items all ≡ query.defines → Prints (Both (Optional g.Timed) (Both g.Elements (Both (Optional (g.Definitions room)) (Both g.Within (Both (g.Opening room) (Both g.Policy g.Consume)))))) (Paired SameTime (Paired (Pairwise SameElement) (Paired SameItems (Paired SameLength (Paired SameOpening (Paired Equal SameConsume)))))) (query.time, (query.elements, (all, (query.length, (query.opening, (query.select, query.consume)))))) z) c.in_ok-time.ensures e2 (λ x y p r room all is. prints_both (Optional g.Timed) (Both g.Elements (Both (Optional (g.Definitions room)) (Both g.Within (Both (g.Opening room) (Both g.Policy g.Consume))))) SameTime (Paired (Pairwise SameElement) (Paired SameItems (Paired SameLength (Paired SameOpening (Paired Equal SameConsume))))) (query.time, (query.elements, (all, (query.length, (query.opening, (query.select, query.consume)))))) x y p (r room all is)) in
    let e0 = adds_both _ _ _ _ _ (λ z. (room : ℕ) (all : Option (List (Ident × Tree))) → g.items all ≡ query.defines → Prints (Both g.Columns (Both (Optional g.Timed) (Both g.Elements (Both (Optional (g.Definitions room)) (Both g.Within (Both (g.Opening room) (Both g.Policy g.Consume))))))) (Paired (Pairwise SameColumn) (Paired SameTime (Paired (Pairwise SameElement) (Paired SameItems (Paired SameLength (Paired SameOpening (Paired Equal SameConsume))))))) (query.columns, (query.time, (query.elements, (all, (query.length, (query.opening, (query.select, query.consume))))))) z) (adds_map _ _ _ (Prints g.Columns (Pairwise SameColumn) query.columns) (λ x p. subst (λ z. Prints g.Columns (Pairwise SameColumn) z x) c.as_slice.ensures p) c.in_ok-columns.ensures) e1 (λ x y p r room all is. prints_both g.Columns (Both (Optional g.Timed) (Both g.Elements (Both (Optional (g.Definitions room)) (Both g.Within (Both (g.Opening room) (Both g.Policy g.Consume)))))) (Pairwise SameColumn) (Paired SameTime (Paired (Pairwise SameElement) (Paired SameItems (Paired SameLength (Paired SameOpening (Paired Equal SameConsume)))))) (query.columns, (query.time, (query.elements, (all, (query.length, (query.opening, (query.select, query.consume))))))) x y p (r room all is)) in
    adds_map _ _ _ (λ z. (room : ℕ) → Prints (g.Derives room) Same query z) (λ z p room. l.prints_parts room query z (p room)) e0) c.consume.ensures
