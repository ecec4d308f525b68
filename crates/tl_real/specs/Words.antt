-- The words that a failure begins with.
use Rattle.std.specs.Prelude.{ℕ, List, codes}
use Rattle.tl_real.specs.declared.failure.Doing.{Doing}
use Rattle.tl_real.specs.declared.failure.Doing.TheVariants.{Open, Lock, Look, Read, List as Lists, Create, Write, Remove, Sync, Say}

-- what was being done, as it is told
abbrev pub words_of : Doing → List ℕ
words_of Open = codes "cannot open"
words_of Lock = codes "cannot lock"
words_of Look = codes "cannot look for"
words_of Read = codes "cannot read"
words_of Lists = codes "cannot list"
words_of Create = codes "cannot create"
words_of Write = codes "cannot write to"
words_of Remove = codes "cannot remove"
words_of Sync = codes "cannot make durable"
words_of Say = codes "cannot write to"
