use Rattle.std.proofs.Common.{◌≡◌, ℕ, List, map, take, Ok, sym, subst, ap, ◌∙◌, arith, rules}
use Rattle.std.specs.Prelude.{IsErr}
use Rattle.std.specs.List.{flat_map}
use Rattle.std.proofs.lemmas.List.{take_all}
use Rattle.std.proofs.lemmas.List.Folds.{flat_map-map}
use Rattle.sp_io.specs.Outside.{Grew, SinkState}
use Rattle.sp_listing.specs.declared.proof.WindowProof.{WindowProof}
use Rattle.sp_listing.specs.Listing.{entry_text, listing_text, seen}
use Rattle.sp_answer.specs.Written.{WritesText}
use Rattle.sp_answer.specs.declared.written.Written.{Written}
use Rattle.sp_answer.specs.declared.written.Written.TheVariants.{Failed}
use Rattle.sp_answer.proofs.Writing.{whole_text, cut_within, piece_grew, piece_quiet, piece_short}
use Rattle.sp_commands.proofs.LinesOf.{text_more, parts}
use Rattle.sp_commands.proofs.listed.write_entries.Goals as goal

pub returns-in_err-written : goal.returns-in_err-written
returns-in_err-written g c =
    let own = λ (p : WindowProof). entry_text c.args.plan.now (seen p) in
    let es = c.args.entries.now in
    let i = c.loop-entry.entry-index in
    let p = c.entry-item.result in
    let at = c.loop-entry.invariant in
    let old : SinkState = g.K.Sink.state c.args.out.now in
    let mid : SinkState = g.K.Sink.state c.loop-entry.out in
    let new : SinkState = g.K.Sink.state c.write_entry.new.out in
    let failed : IsErr c.write_entry.result = search rules in
    subst (λ (l : List ℕ). WritesText l old new c.from_residual.result) (sym (flat_map-map (entry_text c.args.plan.now) seen es))
    (piece_short _ (flat_map own (take i es)) (own p) _ (parts own es i p (omega arith) c.entry-item.is) old mid new at.grew at.faults c.write_entry.result c.from_residual.result failed c.from_residual.ensures.0 c.write_entry.ensures)

pub returns-in-Failed : goal.returns-in-Failed
returns-in-Failed g c =
    let own = λ (p : WindowProof). entry_text c.args.plan.now (seen p) in
    let es = c.args.entries.now in
    let i = c.loop-entry.entry-index in
    let p = c.entry-item.result in
    let at = c.loop-entry.invariant in
    let old : SinkState = g.K.Sink.state c.args.out.now in
    let mid : SinkState = g.K.Sink.state c.loop-entry.out in
    let new : SinkState = g.K.Sink.state c.write_entry.new.out in
    let piece = subst (λ (w : Written). WritesText (own p) mid new (Ok w)) c.in-Failed.is c.in_ok-written.ensures in
    subst (λ (l : List ℕ). WritesText l old new (Ok Failed)) (sym (flat_map-map (entry_text c.args.plan.now) seen es))
    (cut_within _ (flat_map own (take i es)) (own p) _ (parts own es i p (omega arith) c.entry-item.is) old mid new at.grew at.faults piece)

pub loop-entry-preserved : goal.loop-entry-preserved
loop-entry-preserved g c =
    let own = λ (p : WindowProof). entry_text c.args.plan.now (seen p) in
    let es = c.args.entries.now in
    let i = c.loop-entry.entry-index in
    let p = c.entry-item.result in
    let at = c.loop-entry.invariant in
    let old : SinkState = g.K.Sink.state c.args.out.now in
    let mid : SinkState = g.K.Sink.state c.loop-entry.out in
    let new : SinkState = g.K.Sink.state c.write_entry.new.out in
    let piece = subst (λ (w : Written). WritesText (own p) mid new (Ok w)) c.in-All.is c.in_ok-written.ensures in
    let are = parts own es i p (omega arith) c.entry-item.is in
    record {
      grew = subst (λ (l : List ℕ). Grew old.held l new.held) (sym (text_more own es i p (omega arith) c.entry-item.is)) (piece_grew _ (flat_map own (take i es)) (own p) _ are old mid new at.grew at.faults piece);
      faults = piece_quiet _ (flat_map own (take i es)) (own p) _ are old mid new at.grew at.faults piece;
    }

pub returns : goal.returns
returns g c =
    let own = λ (p : WindowProof). entry_text c.args.plan.now (seen p) in
    let es = c.args.entries.now in
    let old : SinkState = g.K.Sink.state c.args.out.now in
    let new : SinkState = g.K.Sink.state c.loop-entry.out in
    let whole : flat_map own (take c.loop-entry.entry-index es) ≡ listing_text c.args.plan.now (map seen es) =
    ap (flat_map own) (take_all c.loop-entry.entry-index es (omega arith)) ∙ sym (flat_map-map (entry_text c.args.plan.now) seen es) in
    whole_text _ old new (subst (λ (l : List ℕ). Grew old.held l new.held) whole c.loop-entry.invariant.grew) c.loop-entry.invariant.faults
