-- What is claimed of the rules.
pub mod OnlyTrading
pub mod OwnOrders
