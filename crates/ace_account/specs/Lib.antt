pub mod Accounts
pub mod Certificate
pub mod Listeners
