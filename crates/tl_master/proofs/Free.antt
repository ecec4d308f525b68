-- Calls that ask a tree, and fail.
use Rattle.std.proofs.Common.{Bool, Result, Err, arith}
use Rattle.tl_model.specs.Volume.{Volume}
use Rattle.tl_tree.specs.Planted.{Planted}
use Rattle.tl_backup.specs.Asked.{IsAsked}
use Rattle.tl_master.specs.Answers.{IsHostCause, IsFree, Asks}
use Rattle.tl_master.specs.declared.error.MasterError.{MasterError}
use Rattle.tl_master.specs.declared.error.MasterError.TheVariants.{BadMarks, BadSource, UnsetVariable, BadPath, Regexp, NoSource, TooLarge, HostFault, NoMemory}

-- a fault that has a cause has it since before
pub host_before : (tells : Bool) (old mid new : Planted) (fault : MasterError) → IsAsked tells old mid → IsHostCause mid new fault → IsHostCause old new fault
host_before tells old mid new fault asked cause is = let far = asked.later in let near = cause is in omega (arith, far, near)

-- a fault that has no cause in what was read
pub asks_free : {B U : Type 0} (tells : Bool) (other : U → B) (wanted : Volume → Result B MasterError) (old new : Planted) (fault : MasterError) → IsAsked tells old new → IsFree fault → IsHostCause old new fault
    → Asks tells other wanted old new (Err fault)
asks_free tells other wanted old new (BadMarks line) asked free cause = absurd free
asks_free tells other wanted old new (BadSource source line kind) asked free cause = absurd free
asks_free tells other wanted old new (UnsetVariable source line) asked free cause = absurd free
asks_free tells other wanted old new (BadPath source line) asked free cause = absurd free
asks_free tells other wanted old new (Regexp source line kind) asked free cause = absurd free
asks_free tells other wanted old new NoSource asked free cause = absurd free
asks_free tells other wanted old new (TooLarge what limit) asked free cause = absurd free
asks_free tells other wanted old new HostFault asked free cause = record { answered = λ told. tt; asked = asked; cause = cause; others = λ is. is }
asks_free tells other wanted old new NoMemory asked free cause = record { answered = λ told. tt; asked = asked; cause = cause; others = λ is. is }
