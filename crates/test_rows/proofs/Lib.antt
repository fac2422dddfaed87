mod FirstProperty
mod WasRead
