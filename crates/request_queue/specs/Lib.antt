-- Lists that grow, and what rows lead to.
pub mod inner
