mod EntryForms
mod ReceiptForms
