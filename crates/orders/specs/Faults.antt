-- The number of an order's refusal.
use Rattle.std.specs.Prelude.{ℕ}
use Rattle.orders.specs.declared.fault.OrderFault.{OrderFault}
use Rattle.orders.specs.declared.fault.OrderFault.TheVariants.{TooManyGrades}

abbrev pub order_number : OrderFault → ℕ
order_number TooManyGrades = 15
