-- An entry without some of its fields.
use Rattle.std.specs.Prelude.{None}
use Rattle.tl_entry.specs.declared.object.Container.{Container}
use Rattle.tl_entry.specs.declared.object.Object.{Object}

-- what is known of a container of which nothing is known
abbrev pub no_container : Container
no_container = record { size = None; digest = None }

-- an entry without what is known of its three containers
abbrev pub less_containers : Object → Object
less_containers o = record o { run_box = no_container; doc_box = no_container; src_box = no_container }
