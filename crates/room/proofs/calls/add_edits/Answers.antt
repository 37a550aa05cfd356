use Rattle.std.proofs.Common.{◌≡◌, ◌∷◌, [], Some, ap, arith, length, subst}
use Rattle.std.specs.Prelude.{slice_get}
use Rattle.std.proofs.lemmas.List.{length-append}
use Rattle.opid.specs.Edits.{edits_in}
use Rattle.opid.proofs.Gathered.{gathered}
use Rattle.room.proofs.calls.add_edits.Goals as goal

pub loop-version-preserved : goal.loop-version-preserved
loop-version-preserved c = record {
  edits =
      gathered (edits_in c.args.units c.args.doc.now.log) c.loop-version.es.items c.push_reserved.new.self.items _
      c.loop-version.version c.args.to c.edit_in.result c.loop-version-test.true
      (subst (λ n. slice_get (edits_in c.args.units c.args.doc.now.log) n ≡ Some c.edit_in.result) (omega arith) c.edit_in.ensures)
      c.loop-version.invariant.edits c.push_reserved.ensures.items;
  reserved = omega (
    arith,
    c.loop-version.invariant.reserved,
    c.push_reserved.ensures.capacity,
    ap length c.push_reserved.ensures.items,
    length-append c.loop-version.es.items (c.edit_in.result ∷ []),
  );
}
