-- What a program leaves where it does no more than write. Assumes nothing.
use Rattle.std.specs.Prelude.{◌≡◌}
use Rattle.sessions.specs.declared.Program.{Program}

-- at most its output changed: the core on lent memory, and what is read, are as they were
pub record OutputOnly (old new : Program) : Type 0 where
  pub state : new.state.now ≡ old.state.now
  pub ram : new.ram.now ≡ old.ram.now
  pub marks : new.marks.now ≡ old.marks.now
  pub bench : new.bench ≡ old.bench
  pub line : new.line ≡ old.line
  pub more : new.more ≡ old.more
