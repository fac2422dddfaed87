pub mod Arrays
pub mod Classes
pub mod DecoratorMembers
pub mod Decorators
pub mod Functions
pub mod Imports
pub mod Marked
pub mod Members
pub mod NewTargets
pub mod Numbers
pub mod Objects
pub mod PropertyNames
pub mod Spreads
pub mod Supers
pub mod Templates
pub use Rattle.laws_shared.specs.js_cursor as js_cursor
pub use Rattle.laws_shared.specs.js_tree as js_tree
pub use Rattle.laws_shared.specs as laws_shared
