use Rattle.std.proofs.Common.{refl, arith}
use Rattle.std.proofs.lemmas.Option.{slice_get_read}
use Rattle.ws_server.specs.Halls.{rooms_of}
use Rattle.ws_server.proofs.Passes.{same_length, pass_at, pass_set}
use Rattle.ws_server.proofs.hall.Hall.look.Goals as goal

pub index_mut-requires : goal.index_mut-requires
index_mut-requires g c =
    let same = same_length (rooms_of c.args.self.now) c.args.pass.now.passes.items c.requires.pass in
    let ok = c.args.pass.now.passes.ok in omega arith

pub look-requires : goal.look-requires
look-requires g c =
    let same = same_length (rooms_of c.args.self.now) c.args.pass.now.passes.items c.requires.pass in
    pass_at (rooms_of c.args.self.now) c.args.pass.now.passes.items c.args.at c.room.result.now c.index_mut.result.now c.requires.pass
    c.room.ensures
    (slice_get_read c.args.pass.now.passes.items _ c.args.at c.index_mut.result.now refl (omega arith) c.index_mut.ensures.value)

pub returns-clause-pass : goal.returns-clause-pass
returns-clause-pass g c =
    pass_set (rooms_of c.args.self.now) c.args.pass.now.passes.items c.args.at c.room.result.now c.look.new.pass c.requires.pass
    c.room.ensures c.look.ensures.pass

pub returns-clause-looked : goal.returns-clause-looked
returns-clause-looked g c =
    let same = same_length (rooms_of c.args.self.now) c.args.pass.now.passes.items c.requires.pass in
    let read = slice_get_read c.args.pass.now.passes.items _ c.args.at c.index_mut.result.now refl (omega arith)
    c.index_mut.ensures.value in
    let told = c.look.ensures in (
      c.room.result.now,
      c.index_mut.result.now,
      c.look.new.pass,
      c.room.ensures,
      read,
      refl,
      record { told = told.told; cause = told.cause; worn = told.worn; worn_same = told.worn_same; memory = told.memory },
    )
