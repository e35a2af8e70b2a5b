-- The number of each refusal of a kiosk, and the layer that it comes from.
use Rattle.std.specs.Prelude.{ℕ}
use Rattle.rules.specs.declared.refusal.Layer.{Layer}
use Rattle.rules.specs.declared.refusal.Layer.TheVariants.{Rack as RackLayer, Kiosk as KioskLayer}
use Rattle.laying.specs.Faults.{rack_number}
use Rattle.kiosk.specs.declared.fault.KioskFault.{KioskFault}
use Rattle.kiosk.specs.declared.fault.KioskFault.TheVariants.{SessionOpen, NoRoom, NoSessionHere, RulesFull, NotInSession, BadFact, Rack}

abbrev pub kiosk_number : KioskFault → ℕ
kiosk_number SessionOpen = 21
kiosk_number NoRoom = 22
kiosk_number NoSessionHere = 23
kiosk_number RulesFull = 24
kiosk_number NotInSession = 25
kiosk_number BadFact = 13
kiosk_number (Rack f) = rack_number f

abbrev pub kiosk_layer : KioskFault → Layer
kiosk_layer SessionOpen = KioskLayer
kiosk_layer NoRoom = KioskLayer
kiosk_layer NoSessionHere = KioskLayer
kiosk_layer RulesFull = KioskLayer
kiosk_layer NotInSession = KioskLayer
kiosk_layer BadFact = KioskLayer
kiosk_layer (Rack f) = RackLayer
