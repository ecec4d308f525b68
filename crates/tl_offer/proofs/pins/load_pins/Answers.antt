use Rattle.std.proofs.Common.{◌≡◌, ℕ, List, [], Option, Some, None, Vec, Ok, refl, sym, ap, subst, ◌∙◌}
use Rattle.std.specs.Option.{option_map}
use Rattle.std.specs.declared.alloc.Global.{Global}
use Rattle.tl_model.specs.Volume.{Name}
use Rattle.tl_kind.specs.declared.quantity.What.TheVariants.{Pins}
use Rattle.tl_pin.specs.declared.line.PinLine.{PinLine}
use Rattle.tl_pin.specs.declared.pins.PinsError.{PinsError}
use Rattle.tl_pin.specs.Reading.{IsPinsError, pins_of}
use Rattle.tl_pin.proofs.PinsLaws.{pins_read, pins_refused}
use Rattle.tl_refusal.specs.declared.refusal.Refusal.TheVariants.{BadPins}
use Rattle.tl_command.specs.Endings.{no_devices}
use Rattle.tl_command.specs.Loaded.{Reads}
use Rattle.tl_command.specs.Performs.{Performs}
use Rattle.tl_command.specs.Runs.{over_file}
use Rattle.tl_command.proofs.Joins.{performs_of}
use Rattle.tl_offer.specs.Pinned.{LoadsPins, over_read, over_pins, pins_or_refusal}
use Rattle.tl_offer.proofs.PinLemmas.{pins_found, pins-read, performs_unpinned, performs_unfinished, performs_file}
use Rattle.tl_offer.proofs.pins.load_pins.Goals as goal

abbrev Bytes : Type 0
Bytes = Vec ℕ Global

abbrev bytes_of : Bytes → List ℕ
bytes_of bytes = bytes.items

pub returns-in-Err-clause-acted : goal.returns-in-Err-clause-acted
returns-in-Err-clause-acted g c go =
    let old = c.args.tree in
    let ending = c.in-Err.acted.ending in
    let state = c.in-Err.acted.state in
    performs_file g.H.Host.tells g.H.Host.seen 0 no_devices no_devices ending state old old go
    (subst (λ (p : Name). Performs g.H.Host.tells g.H.Host.seen (λ t. over_file Pins p (λ found. over_read (go t) (pins_found found)) t) 0 old.seen no_devices no_devices ending state) c.known-path.ensures
    (c.in-Err.ensures.acted (λ t found. over_read (go t) (pins_found found))))

pub returns-in_default-clause-read : goal.returns-in_default-clause-read
returns-in_default-clause-read g c =
    let old = c.args.tree in
    let new = c.in-Ok.read.1 in
    let reads = subst (λ (o : Option Bytes). Reads g.H.Host.tells Pins c.known-path.result old new (option_map bytes_of o)) c.in_default.is c.in-Ok.ensures.read in
    subst (λ (pins : List PinLine). LoadsPins g.H.Host.tells old new pins) (sym c.none.ensures)
    (pins-read g.H.Host.tells old new None [] (subst (λ (p : Name). Reads g.H.Host.tells Pins p old new None) c.known-path.ensures reads) refl)

pub returns-in-Ok-parse-clause-read : goal.returns-in-Ok-parse-clause-read
returns-in-Ok-parse-clause-read g c =
    let old = c.args.tree in
    let new = c.in-Ok.read.1 in
    let text = c.in-Some.text.items in
    let reads = subst (λ (o : Option Bytes). Reads g.H.Host.tells Pins c.known-path.result old new (option_map bytes_of o)) c.in-Some.is c.in-Ok.ensures.read in
    let read : pins_of text ≡ Ok c.in-Ok-parse.pins = ap pins_of (sym c.deref.ensures.value) ∙ pins_read c.deref.result.now c.in-Ok-parse.pins c.in-Ok-parse.ensures in
    pins-read g.H.Host.tells old new (Some text) c.in-Ok-parse.pins (subst (λ (p : Name). Reads g.H.Host.tells Pins p old new (Some text)) c.known-path.ensures reads) (ap pins_or_refusal read)

pub returns-in-Err-BadPins-clause-acted : goal.returns-in-Err-BadPins-clause-acted
returns-in-Err-BadPins-clause-acted g c go =
    let old = c.args.tree in
    let new = c.in-Ok.read.1 in
    let text = c.in-Some.text.items in
    let line = c.in-Err-BadPins.line in
    let reads = subst (λ (o : Option Bytes). Reads g.H.Host.tells Pins c.known-path.result old new (option_map bytes_of o)) c.in-Some.is c.in-Ok.ensures.read in
    let bad = subst (λ (e : PinsError). IsPinsError c.deref.result.now e) c.in-Err-BadPins.field-0-is c.in-Err-BadPins.ensures in
    performs_unpinned g.H.Host.tells g.H.Host.seen 0 no_devices no_devices c.refuse.result.ending c.refuse.result.state old new (Some text) (BadPins line) go
    (subst (λ (p : Name). Reads g.H.Host.tells Pins p old new (Some text)) c.known-path.ensures reads)
    (ap pins_or_refusal (ap pins_of (sym c.deref.ensures.value) ∙ pins_refused c.deref.result.now line bad))
    (performs_of _ _ _ _ _ _ _ c.of_tree.ensures c.refuse.ensures.performs)

pub returns-clause-acted : goal.returns-clause-acted
returns-clause-acted g c go =
    let old = c.args.tree in
    let new = c.in-Ok.read.1 in
    let text = c.in-Some.text.items in
    let reads = subst (λ (o : Option Bytes). Reads g.H.Host.tells Pins c.known-path.result old new (option_map bytes_of o)) c.in-Some.is c.in-Ok.ensures.read in
    performs_unfinished g.H.Host.tells g.H.Host.seen 0 no_devices no_devices c.give_up.result.ending c.give_up.result.state old new (Some text) (λ t. over_pins (go t) t)
    (subst (λ (p : Name). Reads g.H.Host.tells Pins p old new (Some text)) c.known-path.ensures reads)
    (performs_of _ _ _ _ _ _ _ c.of_tree-in-Err-NoMemory.ensures (c.give_up.ensures _))
