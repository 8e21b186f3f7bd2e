-- Where each number and field lies in lent memory (docs/MEMORY.md has the same as tables).
pub mod Layout
